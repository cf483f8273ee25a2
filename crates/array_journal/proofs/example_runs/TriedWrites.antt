-- The journal of a write and of a read after it is a run.
use Rattle.std.specs.Prelude.{◌≡◌, ◌==◌, ℕ, true, false, List, [], ◌∷◌, None}
use Rattle.std.proofs.Common.{refl, lit<, lit≤}
use Rattle.stripe_layout.specs.declared.mode.Mode.TheVariants.{Supervised}
use Rattle.sbc_cdbs.specs.declared.descriptor.Cdb.{Cdb}
use Rattle.array_journal.specs.declared.entry.Entry.{Entry}
use Rattle.array_journal.specs.declared.task.Kind.TheVariants.{Read, Update}
use Rattle.array_journal.specs.declared.event.Event.TheVariants.{Fetch, Diff, Take, Fold, Open, Close}
use Rattle.array_journal.specs.declared.act.Act.{Act}
use Rattle.array_journal.specs.declared.act.Act.TheVariants.{Fetches, Puts, Diffs, Takes, Folds, Holds}
use Rattle.array_journal.specs.Acts.{acts_at}
use Rattle.array_journal.specs.May.{May, IsTask, MayAct, NamesActs, AllNamed, is_named}
use Rattle.array_journal.specs.ExampleJournals.{small, at, entry, block, SpellsAct, write_task, read_task, written, WriteAndReadRuns}
use Rattle.array_journal.proofs.calm.ActSteps.{all_named-none, all_named-one}

-- the entries of the write and the read
may-open_write : May small [] (entry 1 0 (Open 0 write_task))
may-open_write = (refl, record { numbered = refl; sound = sound; decided = refl; alone = refl; room = refl })
  where
    sound : IsTask small write_task
    sound = record {
      in_array = lit< tt;
      parity = refl;
      target = lit< tt;
      some_rows = lit≤ tt;
      from_stripe = lit≤ tt;
      to_stripe = lit≤ tt;
      by_kind = ((λ e. cc), refl);
    }

pub may-diff : (diff : Cdb) → SpellsAct small write_task 0 Diffs diff →
    May small (entry 1 0 (Open 0 write_task) ∷ []) (entry 2 1 (Diff 0 (at 1 0) diff 0 block false false false))
may-diff diff spelt = (refl, (lit< tt, (write_task, record { act = act; written = refl; sent_by_mode = refl; back_by_mode = refl; dropped_when_due = refl })))
  where
    act : MayAct small (entry 1 0 (Open 0 write_task) ∷ []) 2 0 0 (at 1 0) diff 0 8 0 write_task Diffs
    act = record {
      opening = (refl, lit< tt);
      in_book = refl;
      of_task = refl;
      not_gone = refl;
      not_shut = refl;
      once = refl;
      same_life = refl;
      at_row = refl;
      whole = refl;
      spelt = spelt;
    }

abbrev diffed : Cdb → List Entry
diffed diff = entry 2 1 (Diff 0 (at 1 0) diff 0 block false false false) ∷ entry 1 0 (Open 0 write_task) ∷ []

may-take : (diff take : Cdb) → SpellsAct small write_task 0 Takes take → May small (diffed diff) (entry 3 1 (Take 0 (at 1 0) take 0 block))
may-take diff take spelt = (refl, (lit< tt, (write_task, record { act = act; taken = refl })))
  where
    act : MayAct small (diffed diff) 3 0 0 (at 1 0) take 0 8 0 write_task Takes
    act = record {
      opening = (refl, lit< tt);
      in_book = refl;
      of_task = refl;
      not_gone = refl;
      not_shut = refl;
      once = refl;
      same_life = refl;
      at_row = refl;
      whole = refl;
      spelt = spelt;
    }

abbrev taken_past : Cdb → Cdb → List Entry
taken_past diff take = entry 3 1 (Take 0 (at 1 0) take 0 block) ∷ diffed diff

may-fold : (diff take fold : Cdb) → SpellsAct small write_task 0 Folds fold →
    May small (taken_past diff take) (entry 4 3 (Fold 0 (at 1 0) fold 0 block (at 3 1 ∷ [])))
may-fold diff take fold spelt =
    (refl, (lit< tt, (write_task, (at 3 1, record { act = act; one = refl; at_source = refl; earlier = lit< tt; source = (refl, refl) }))))
  where
    act : MayAct small (taken_past diff take) 4 2 0 (at 1 0) fold 0 8 0 write_task Folds
    act = record {
      opening = (refl, lit< tt);
      in_book = refl;
      of_task = refl;
      not_gone = refl;
      not_shut = refl;
      once = refl;
      same_life = refl;
      at_row = refl;
      whole = refl;
      spelt = spelt;
    }

may-close_write : (diff take fold : Cdb) → May small (written diff take fold) (entry 5 0 (Close 0 true (at 2 1 ∷ at 3 1 ∷ at 4 3 ∷ []) None []))
may-close_write diff take fold = (refl, (write_task, ((refl, refl), record { acts = acts; folds = one Folds 2 (λ i. refl) refl; no_cause = refl; answer = refl })))
  where
    none : (act : Act) → ((i : ℕ) → acts_at Supervised act Update write_task i ≡ false) →
        AllNamed small (written diff take fold) 0 write_task act (at 2 1 ∷ at 3 1 ∷ at 4 3 ∷ [])
    none act never = all_named-none small (written diff take fold) 0 write_task act (at 2 1 ∷ at 3 1 ∷ at 4 3 ∷ []) Update Supervised refl refl never

    one : (act : Act) (target : ℕ) → ((i : ℕ) → acts_at Supervised act Update write_task i ≡ (i == target)) →
        is_named (written diff take fold) 0 act target (at 2 1 ∷ at 3 1 ∷ at 4 3 ∷ []) ≡ true →
        AllNamed small (written diff take fold) 0 write_task act (at 2 1 ∷ at 3 1 ∷ at 4 3 ∷ [])
    one act target only named =
        all_named-one small (written diff take fold) 0 write_task act (at 2 1 ∷ at 3 1 ∷ at 4 3 ∷ []) Update Supervised target refl refl only named

    acts : NamesActs small (written diff take fold) 5 0 write_task (at 2 1 ∷ at 3 1 ∷ at 4 3 ∷ [])
    acts = record {
      in_order = (refl, (refl, tt));
      only = ((refl, lit< tt), ((refl, lit< tt), ((refl, lit< tt), tt)));
      fetches = none Fetches (λ i. refl);
      puts = none Puts (λ i. refl);
      diffs = one Diffs 0 (λ i. refl) refl;
      takes = one Takes 0 (λ i. refl) refl;
      holds = none Holds (λ i. refl);
    }

abbrev closed_write : Cdb → Cdb → Cdb → List Entry
closed_write diff take fold = entry 5 0 (Close 0 true (at 2 1 ∷ at 3 1 ∷ at 4 3 ∷ []) None []) ∷ written diff take fold

may-open_read : (diff take fold : Cdb) → May small (closed_write diff take fold) (entry 6 0 (Open 1 read_task))
may-open_read diff take fold = (refl, record { numbered = refl; sound = sound; decided = refl; alone = refl; room = refl })
  where
    sound : IsTask small read_task
    sound = record {
      in_array = lit< tt;
      parity = refl;
      target = lit< tt;
      some_rows = lit≤ tt;
      from_stripe = lit≤ tt;
      to_stripe = lit≤ tt;
      by_kind = ((λ e. cc), refl);
    }

abbrev opened_read : Cdb → Cdb → Cdb → List Entry
opened_read diff take fold = entry 6 0 (Open 1 read_task) ∷ closed_write diff take fold

may-fetch_read : (diff take fold fetch : Cdb) → SpellsAct small read_task 0 Fetches fetch →
    May small (opened_read diff take fold) (entry 7 1 (Fetch 1 (at 6 0) fetch 0 block))
may-fetch_read diff take fold fetch spelt = (refl, (lit< tt, (read_task, record { act = act; read = refl })))
  where
    act : MayAct small (opened_read diff take fold) 7 0 1 (at 6 0) fetch 0 8 0 read_task Fetches
    act = record {
      opening = (refl, lit< tt);
      in_book = refl;
      of_task = refl;
      not_gone = refl;
      not_shut = refl;
      once = refl;
      same_life = refl;
      at_row = refl;
      whole = refl;
      spelt = spelt;
    }

abbrev fetched_read : Cdb → Cdb → Cdb → Cdb → List Entry
fetched_read diff take fold fetch = entry 7 1 (Fetch 1 (at 6 0) fetch 0 block) ∷ opened_read diff take fold

may-close_read : (diff take fold fetch : Cdb) → May small (fetched_read diff take fold fetch) (entry 8 0 (Close 1 true (at 7 1 ∷ []) None []))
may-close_read diff take fold fetch =
    (refl, (read_task, ((refl, refl), record { acts = acts; folds = none Folds (λ i. refl); no_cause = refl; answer = refl })))
  where
    none : (act : Act) → ((i : ℕ) → acts_at Supervised act Read read_task i ≡ false) → AllNamed small (fetched_read diff take fold fetch) 1 read_task act (at 7 1 ∷ [])
    none act never = all_named-none small (fetched_read diff take fold fetch) 1 read_task act (at 7 1 ∷ []) Read Supervised refl refl never

    acts : NamesActs small (fetched_read diff take fold fetch) 8 1 read_task (at 7 1 ∷ [])
    acts = record {
      in_order = tt;
      only = ((refl, lit< tt), tt);
      fetches = all_named-one small (fetched_read diff take fold fetch) 1 read_task Fetches (at 7 1 ∷ []) Read Supervised 0 refl refl (λ i. refl) refl;
      puts = none Puts (λ i. refl);
      diffs = none Diffs (λ i. refl);
      takes = none Takes (λ i. refl);
      holds = none Holds (λ i. refl);
    }

pub write-and_read : WriteAndReadRuns
write-and_read diff take fold fetch d t f r = (
  (refl, may-close_read diff take fold fetch),
  (
    (refl, may-fetch_read diff take fold fetch r),
    (
      (refl, may-open_read diff take fold),
      (
        (refl, may-close_write diff take fold),
        (
          (refl, may-fold diff take fold f),
          (
            (refl, may-take diff take t),
            (
              (refl, may-diff diff d),
              ((tt, may-open_write), tt),
            ),
          ),
        ),
      ),
    ),
  ),
)
