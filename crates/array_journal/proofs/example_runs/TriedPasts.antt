-- The journals before the entries that may not follow are runs.
use Rattle.std.specs.Prelude.{◌≡◌, ◌==◌, ℕ, true, false, List, [], ◌∷◌, Some}
use Rattle.std.proofs.Common.{refl, inr, lit<, lit≤}
use Rattle.stripe_layout.specs.declared.mode.Mode.TheVariants.{Supervised}
use Rattle.sbc_cdbs.specs.declared.descriptor.Cdb.{Cdb}
use Rattle.array_journal.specs.declared.entry.Entry.{Entry}
use Rattle.array_journal.specs.declared.event.Event.TheVariants.{Diff, Take, Gone, Open, Close, Note}
use Rattle.array_journal.specs.declared.task.Kind.TheVariants.{Update}
use Rattle.array_journal.specs.declared.act.Act.{Act}
use Rattle.array_journal.specs.declared.act.Act.TheVariants.{Fetches, Puts, Diffs, Takes, Folds, Holds}
use Rattle.array_journal.specs.Acts.{acts_at}
use Rattle.array_journal.specs.May.{May, IsTask, NamesActs, AllNamed, is_named}
use Rattle.array_journal.specs.ExampleJournals.{small, tiny, at, entry, write_task, rebuild_task, old_task, BesideUpdateRuns, RebuildingRuns, ParityReplacedRuns, SpoiltRuns}
use Rattle.array_journal.proofs.calm.ActSteps.{all_named-none, all_named-one}
use Rattle.array_journal.proofs.example_runs.TriedBars.{none_named}

write_sound : IsTask small write_task
write_sound = record {
  in_array = lit< tt;
  parity = refl;
  target = lit< tt;
  some_rows = lit≤ tt;
  from_stripe = lit≤ tt;
  to_stripe = lit≤ tt;
  by_kind = ((λ e. cc), refl);
}

rebuild_sound : IsTask small rebuild_task
rebuild_sound = record {
  in_array = lit< tt;
  parity = refl;
  target = lit< tt;
  some_rows = lit≤ tt;
  from_stripe = lit≤ tt;
  to_stripe = lit≤ tt;
  by_kind = (refl, refl, refl);
}

pub old_sound : IsTask tiny old_task
old_sound = record {
  in_array = lit< tt;
  parity = refl;
  target = lit< tt;
  some_rows = lit≤ tt;
  from_stripe = lit≤ tt;
  to_stripe = lit≤ tt;
  by_kind = ((λ e. cc), refl);
}

pub beside_update-runs : BesideUpdateRuns
beside_update-runs diff d = (
  (refl, (refl, (lit< tt, record { at_target = refl; names_loss = (refl, lit< tt); not_known = refl }))),
  (
    (refl, (refl, (lit< tt, record { says_life = refl; says_owners = refl }))),
    (
      (refl, (refl, (lit< tt, (write_task, record { act = record { opening = (refl, lit< tt); in_book = refl; of_task = refl; not_gone = refl; not_shut = refl; once = refl; same_life = refl; at_row = refl; whole = refl; spelt = d }; written = refl; sent_by_mode = refl; back_by_mode = refl; dropped_when_due = refl })))),
      (
        (tt, (refl, record { numbered = refl; sound = write_sound; decided = refl; alone = refl; room = refl })),
        tt,
      ),
    ),
  ),
)

pub rebuilding-runs : RebuildingRuns
rebuilding-runs second third r q = (
  (refl, (refl, (lit< tt, (rebuild_task, record { act = record { opening = (refl, lit< tt); in_book = refl; of_task = refl; not_gone = refl; not_shut = refl; once = refl; same_life = refl; at_row = refl; whole = refl; spelt = q }; read = refl })))),
  (
    (refl, (refl, (lit< tt, (rebuild_task, record { act = record { opening = (refl, lit< tt); in_book = refl; of_task = refl; not_gone = refl; not_shut = refl; once = refl; same_life = refl; at_row = refl; whole = refl; spelt = r }; read = refl })))),
    (
      (refl, (refl, record { numbered = refl; sound = rebuild_sound; decided = refl; alone = refl; room = refl })),
      (
        (refl, (refl, (lit< tt, record { swapped = (refl, lit< tt); in_book = refl; next_disk = refl }))),
        (
          (refl, (refl, (lit< tt, record { known = refl; idle = refl }))),
          (
            (refl, (refl, (lit< tt, record { at_target = refl; names_loss = (refl, lit< tt); not_known = refl }))),
            (
              (tt, (refl, (lit< tt, record { says_life = refl; says_owners = refl }))),
              tt,
            ),
          ),
        ),
      ),
    ),
  ),
)

pub spoilt-runs : SpoiltRuns
spoilt-runs diff d = (
  (refl, (refl, (lit< tt, record { at_target = refl; names_loss = (refl, lit< tt); not_known = refl }))),
  (
    (refl, (refl, (old_task, ((refl, refl), record { update = refl; at_target = refl; differed = (refl, lit< tt); lost = inr (refl, (refl, lit< tt)); at_parity = refl; shut_idle = (refl, lit< tt) })))),
    (
      (refl, (refl, (lit< tt, (old_task, record { opening = (refl, lit< tt); in_book = refl; of_task = refl; once = refl; unanswered = refl; says_acted = refl; says_lost = refl })))),
      (
        (refl, (refl, (lit< tt, record { says_life = refl; says_owners = refl }))),
        (
          (refl, (refl, (lit< tt, (old_task, record { act = record { opening = (refl, lit< tt); in_book = refl; of_task = refl; not_gone = refl; not_shut = refl; once = refl; same_life = refl; at_row = refl; whole = refl; spelt = d }; written = refl; sent_by_mode = refl; back_by_mode = refl; dropped_when_due = refl })))),
          (
            (tt, (refl, record { numbered = refl; sound = old_sound; decided = refl; alone = refl; room = refl })),
            tt,
          ),
        ),
      ),
    ),
  ),
)

-- the update whose parity disk was lost before its fold, with the loss noted
abbrev parity_lost : Cdb → Cdb → List Entry
parity_lost diff take =
    entry 5 0 (Note 2 (at 1 3))
    ∷ entry 4 1 (Take 0 (at 2 0) take 0 (1 ∷ []))
    ∷ entry 3 1 (Diff 0 (at 2 0) diff 0 (1 ∷ []) false false false)
    ∷ entry 2 0 (Open 0 old_task)
    ∷ entry 1 3 (Gone 0 2 []) ∷ []

may-close_unfolded : (diff take : Cdb) → May tiny (parity_lost diff take) (entry 6 0 (Close 0 true (at 3 1 ∷ at 4 1 ∷ []) (Some (at 1 3)) []))
may-close_unfolded diff take = (
  refl,
  (
    old_task,
    (
      (refl, refl),
      record {
        update = refl;
        acts = acts;
        no_fold = unfolded;
        parity_lost = record { at_target = refl; lost = (refl, lit< tt); known = refl };
        no_answer = refl;
      },
    ),
  ),
)
  where
    none : (act : Act) → ((i : ℕ) → acts_at Supervised act Update old_task i ≡ false) →
        AllNamed tiny (parity_lost diff take) 0 old_task act (at 3 1 ∷ at 4 1 ∷ [])
    none act never = all_named-none tiny (parity_lost diff take) 0 old_task act (at 3 1 ∷ at 4 1 ∷ []) Update Supervised refl refl never

    one : (act : Act) → ((i : ℕ) → acts_at Supervised act Update old_task i ≡ (i == 0)) →
        is_named (parity_lost diff take) 0 act 0 (at 3 1 ∷ at 4 1 ∷ []) ≡ true → AllNamed tiny (parity_lost diff take) 0 old_task act (at 3 1 ∷ at 4 1 ∷ [])
    one act only named = all_named-one tiny (parity_lost diff take) 0 old_task act (at 3 1 ∷ at 4 1 ∷ []) Update Supervised 0 refl refl only named

    acts : NamesActs tiny (parity_lost diff take) 6 0 old_task (at 3 1 ∷ at 4 1 ∷ [])
    acts = record {
      in_order = (refl, tt);
      only = ((refl, lit< tt), ((refl, lit< tt), tt));
      fetches = none Fetches (λ i. refl);
      puts = none Puts (λ i. refl);
      diffs = one Diffs (λ i. refl) refl;
      takes = one Takes (λ i. refl) refl;
      holds = none Holds (λ i. refl);
    }

    unfolded : (i : ℕ) → is_named (parity_lost diff take) 0 Folds i (at 3 1 ∷ at 4 1 ∷ []) ≡ false
    unfolded i = none_named (parity_lost diff take) 0 Folds i (at 3 1 ∷ at 4 1 ∷ []) (refl, (refl, (refl, (refl, (refl, tt)))))

pub parity_replaced-runs : ParityReplacedRuns
parity_replaced-runs diff take d t = (
  (refl, (refl, (lit< tt, record { swapped = (refl, lit< tt); in_book = refl; next_disk = refl }))),
  (
    (refl, (refl, (lit< tt, record { known = refl; idle = refl }))),
    (
      (refl, may-close_unfolded diff take),
      (
        (refl, (refl, (lit< tt, record { at_target = refl; names_loss = (refl, lit< tt); not_known = refl }))),
        (
          (refl, (refl, (lit< tt, (old_task, record { act = record { opening = (refl, lit< tt); in_book = refl; of_task = refl; not_gone = refl; not_shut = refl; once = refl; same_life = refl; at_row = refl; whole = refl; spelt = t }; taken = refl })))),
          (
            (refl, (refl, (lit< tt, (old_task, record { act = record { opening = (refl, lit< tt); in_book = refl; of_task = refl; not_gone = refl; not_shut = refl; once = refl; same_life = refl; at_row = refl; whole = refl; spelt = d }; written = refl; sent_by_mode = refl; back_by_mode = refl; dropped_when_due = refl })))),
            (
              (refl, (refl, record { numbered = refl; sound = old_sound; decided = refl; alone = refl; room = refl })),
              (
                (tt, (refl, (lit< tt, record { says_life = refl; says_owners = refl }))),
                tt,
              ),
            ),
          ),
        ),
      ),
    ),
  ),
)
