-- The example journals are runs.
use Rattle.std.specs.Prelude.{◌≡◌, ◌==◌, ◌&&◌, ◌⊎◌, nat_lt, not, ℕ, true, false, List, [], ◌∷◌, None}
use Rattle.std.proofs.Common.{refl, sym, subst, arith, inl, inr, lit<, lit≤}
use Rattle.std.proofs.lemmas.Bool.Decides.{nat_tests}
use Rattle.stripe_layout.specs.declared.mode.Mode.TheVariants.{Supervised, ThirdParty}
use Rattle.sbc_cdbs.specs.declared.descriptor.Cdb.{Cdb}
use Rattle.array_journal.specs.declared.entry.Entry.{Entry}
use Rattle.array_journal.specs.declared.event.Event.TheVariants.{Fetch, Put, Take, Hold, Gone, Fresh, Open, Close, Note, Swap}
use Rattle.array_journal.specs.declared.task.Kind.TheVariants.{DataOnly, DegradedRead, Rebuild}
use Rattle.array_journal.specs.declared.act.Act.{Act}
use Rattle.array_journal.specs.declared.act.Act.TheVariants.{Fetches, Puts, Diffs, Takes, Folds, Holds}
use Rattle.array_journal.specs.Acts.{acts_at}
use Rattle.array_journal.specs.May.{May, IsTask, NamesActs, AllNamed, is_named}
use Rattle.array_journal.specs.ExampleJournals.{tiny, at, entry, old_task}
use Rattle.array_journal.specs.Examples.{one_byte, zero_byte, data_task, PutAloneRuns, DeltaWipedRuns, mend_task, RebuiltRuns, tiny_third, gather_task, GatheredRuns, RefusedRuns}
use Rattle.array_journal.proofs.calm.ActSteps.{all_named-none, all_named-one}
use Rattle.array_journal.proofs.example_runs.TriedPasts.{old_sound}

data_sound : IsTask tiny data_task
data_sound = record {
  in_array = lit< tt;
  parity = refl;
  target = lit< tt;
  some_rows = lit≤ tt;
  from_stripe = lit≤ tt;
  to_stripe = lit≤ tt;
  by_kind = ((λ e. cc), refl);
}

mend_sound : IsTask tiny mend_task
mend_sound = record {
  in_array = lit< tt;
  parity = refl;
  target = lit< tt;
  some_rows = lit≤ tt;
  from_stripe = lit≤ tt;
  to_stripe = lit≤ tt;
  by_kind = (refl, refl, refl);
}

gather_sound : IsTask tiny_third gather_task
gather_sound = record {
  in_array = lit< tt;
  parity = refl;
  target = lit< tt;
  some_rows = lit≤ tt;
  from_stripe = lit≤ tt;
  to_stripe = lit≤ tt;
  by_kind = ((λ e. cc), refl);
}

-- the journal of the put before its close
abbrev put_made : Cdb → List Entry
put_made put =
    entry 4 1 (Put 0 (at 3 0) put 0 one_byte []) ∷ entry 3 0 (Open 0 data_task) ∷ entry 2 0 (Note 2 (at 1 3)) ∷ entry 1 3 (Gone 0 1 []) ∷ []

close-put : (put : Cdb) → May tiny (put_made put) (entry 5 0 (Close 0 true (at 4 1 ∷ []) None []))
close-put put =
    (refl, (data_task, ((refl, refl), record { acts = acts; folds = none Folds (λ i. refl); no_cause = refl; answer = refl })))
  where
    none : (act : Act) → ((i : ℕ) → acts_at Supervised act DataOnly data_task i ≡ false) → AllNamed tiny (put_made put) 0 data_task act (at 4 1 ∷ [])
    none act never = all_named-none tiny (put_made put) 0 data_task act (at 4 1 ∷ []) DataOnly Supervised refl refl never

    acts : NamesActs tiny (put_made put) 5 0 data_task (at 4 1 ∷ [])
    acts = record {
      in_order = tt;
      only = ((refl, lit< tt), tt);
      fetches = none Fetches (λ i. refl);
      puts = all_named-one tiny (put_made put) 0 data_task Puts (at 4 1 ∷ []) DataOnly Supervised 0 refl refl (λ i. refl) refl;
      diffs = none Diffs (λ i. refl);
      takes = none Takes (λ i. refl);
      holds = none Holds (λ i. refl);
    }

pub put_alone-runs : PutAloneRuns
put_alone-runs put p = (
  (refl, close-put put),
  (
    (refl, (refl, (lit< tt, (data_task, record { act = record { opening = (refl, lit< tt); in_book = refl; of_task = refl; not_gone = refl; not_shut = refl; once = refl; same_life = refl; at_row = refl; whole = refl; spelt = p }; fetched = tt; made = refl })))),
    (
      (refl, (refl, record { numbered = refl; sound = data_sound; decided = refl; alone = refl; room = refl })),
      (
        (refl, (refl, (lit< tt, record { at_target = refl; names_loss = (refl, lit< tt); not_known = refl }))),
        (
          (tt, (refl, (lit< tt, record { says_life = refl; says_owners = refl }))),
          tt,
        ),
      ),
    ),
  ),
)

pub delta_wiped-runs : DeltaWipedRuns
delta_wiped-runs diff d = (
  (refl, (refl, (old_task, ((refl, refl), record { update = refl; at_target = refl; differed = (refl, lit< tt); lost = inr (refl, (refl, lit< tt)); at_parity = refl; shut_idle = (refl, lit< tt) })))),
  (
    (refl, (refl, (lit< tt, (old_task, record { opening = (refl, lit< tt); in_book = refl; of_task = refl; once = refl; unanswered = refl; says_acted = refl; says_lost = refl })))),
    (
      (refl, (refl, (lit< tt, refl))),
      (
        (refl, (refl, (lit< tt, (old_task, record { act = record { opening = (refl, lit< tt); in_book = refl; of_task = refl; not_gone = refl; not_shut = refl; once = refl; same_life = refl; at_row = refl; whole = refl; spelt = d }; written = refl; sent_by_mode = refl; back_by_mode = refl; dropped_when_due = refl })))),
        (
          (tt, (refl, record { numbered = refl; sound = old_sound; decided = refl; alone = refl; room = refl })),
          tt,
        ),
      ),
    ),
  ),
)

-- the journal of the rebuild before its close
abbrev mended : Cdb → Cdb → Cdb → List Entry
mended second third put =
    entry 8 1 (Put 0 (at 5 0) put 0 zero_byte (at 6 2 ∷ at 7 3 ∷ []))
    ∷ entry 7 3 (Fetch 0 (at 5 0) third 0 zero_byte)
    ∷ entry 6 2 (Fetch 0 (at 5 0) second 0 zero_byte)
    ∷ entry 5 0 (Open 0 mend_task)
    ∷ entry 4 1 (Fresh 2 (at 3 0))
    ∷ entry 3 0 (Swap 0 2)
    ∷ entry 2 0 (Note 0 (at 1 1))
    ∷ entry 1 1 (Gone 0 1 []) ∷ []

one_or_two : (i : ℕ) → (nat_lt i 3 && not (i == 0)) ≡ true → (i ≡ 1) ⊎ (i ≡ 2)
one_or_two i h = grind (arith, nat_tests)

close-rebuilt : (second third put : Cdb) → May tiny (mended second third put) (entry 9 0 (Close 0 true (at 6 2 ∷ at 7 3 ∷ at 8 1 ∷ []) None []))
close-rebuilt second third put =
    (refl, (mend_task, ((refl, refl), record { acts = acts; folds = none Folds (λ i. refl); no_cause = refl; answer = refl })))
  where
    none : (act : Act) → ((i : ℕ) → acts_at Supervised act Rebuild mend_task i ≡ false) → AllNamed tiny (mended second third put) 0 mend_task act (at 6 2 ∷ at 7 3 ∷ at 8 1 ∷ [])
    none act never = all_named-none tiny (mended second third put) 0 mend_task act (at 6 2 ∷ at 7 3 ∷ at 8 1 ∷ []) Rebuild Supervised refl refl never

    is_fetched : (i : ℕ) → (i ≡ 1) ⊎ (i ≡ 2) → is_named (mended second third put) 0 Fetches i (at 6 2 ∷ at 7 3 ∷ at 8 1 ∷ []) ≡ true
    is_fetched i (inl e) = subst (λ (k : ℕ). is_named (mended second third put) 0 Fetches k (at 6 2 ∷ at 7 3 ∷ at 8 1 ∷ []) ≡ true) (sym e) refl
    is_fetched i (inr e) = subst (λ (k : ℕ). is_named (mended second third put) 0 Fetches k (at 6 2 ∷ at 7 3 ∷ at 8 1 ∷ []) ≡ true) (sym e) refl

    acts : NamesActs tiny (mended second third put) 9 0 mend_task (at 6 2 ∷ at 7 3 ∷ at 8 1 ∷ [])
    acts = record {
      in_order = (refl, (refl, tt));
      only = ((refl, lit< tt), ((refl, lit< tt), ((refl, lit< tt), tt)));
      fetches = λ i h. is_fetched i (one_or_two i h);
      puts = all_named-one tiny (mended second third put) 0 mend_task Puts (at 6 2 ∷ at 7 3 ∷ at 8 1 ∷ []) Rebuild Supervised 0 refl refl (λ i. refl) refl;
      diffs = none Diffs (λ i. refl);
      takes = none Takes (λ i. refl);
      holds = none Holds (λ i. refl);
    }

pub rebuilt-runs : RebuiltRuns
rebuilt-runs second third put r q p = (
  (refl, close-rebuilt second third put),
  (
    (refl, (refl, (lit< tt, (mend_task, record { act = record { opening = (refl, lit< tt); in_book = refl; of_task = refl; not_gone = refl; not_shut = refl; once = refl; same_life = refl; at_row = refl; whole = refl; spelt = p }; fetched = ((refl, (refl, lit< tt)), ((refl, (refl, lit< tt)), tt)); made = refl })))),
    (
      (refl, (refl, (lit< tt, (mend_task, record { act = record { opening = (refl, lit< tt); in_book = refl; of_task = refl; not_gone = refl; not_shut = refl; once = refl; same_life = refl; at_row = refl; whole = refl; spelt = q }; read = refl })))),
      (
        (refl, (refl, (lit< tt, (mend_task, record { act = record { opening = (refl, lit< tt); in_book = refl; of_task = refl; not_gone = refl; not_shut = refl; once = refl; same_life = refl; at_row = refl; whole = refl; spelt = r }; read = refl })))),
        (
          (refl, (refl, record { numbered = refl; sound = mend_sound; decided = refl; alone = refl; room = refl })),
          (
            (refl, (refl, (lit< tt, record { swapped = (refl, lit< tt); in_book = refl; next_disk = refl }))),
            (
              (refl, (refl, (lit< tt, record { known = refl; idle = refl }))),
              (
                (refl, (refl, (lit< tt, record { at_target = refl; names_loss = (refl, lit< tt); not_known = refl }))),
                (
                  (tt, (refl, (lit< tt, record { says_life = refl; says_owners = refl }))),
                  tt,
                ),
              ),
            ),
          ),
        ),
      ),
    ),
  ),
)

-- the journal of the gathering before its close
abbrev gather_taken : Cdb → Cdb → Cdb → List Entry
gather_taken fetch hold take =
    entry 6 2 (Take 0 (at 3 0) take 0 zero_byte)
    ∷ entry 5 2 (Hold 0 (at 3 0) hold 0 zero_byte true (at 4 3 ∷ []) false)
    ∷ entry 4 3 (Fetch 0 (at 3 0) fetch 0 zero_byte)
    ∷ entry 3 0 (Open 0 gather_task)
    ∷ entry 2 0 (Note 0 (at 1 1))
    ∷ entry 1 1 (Gone 0 1 []) ∷ []

only_two : (i : ℕ) → (nat_lt i 3 && (not (i == 0) && not (i == 1))) ≡ true → i ≡ 2
only_two i h = grind (arith, nat_tests)

close-gathered : (fetch hold take : Cdb) → May tiny_third (gather_taken fetch hold take) (entry 7 0 (Close 0 true (at 4 3 ∷ at 5 2 ∷ at 6 2 ∷ []) None zero_byte))
close-gathered fetch hold take =
    (refl, (gather_task, ((refl, refl), record { acts = acts; folds = none Folds (λ i. refl); no_cause = refl; answer = refl })))
  where
    none : (act : Act) → ((i : ℕ) → acts_at ThirdParty act DegradedRead gather_task i ≡ false) → AllNamed tiny_third (gather_taken fetch hold take) 0 gather_task act (at 4 3 ∷ at 5 2 ∷ at 6 2 ∷ [])
    none act never = all_named-none tiny_third (gather_taken fetch hold take) 0 gather_task act (at 4 3 ∷ at 5 2 ∷ at 6 2 ∷ []) DegradedRead ThirdParty refl refl never

    acts : NamesActs tiny_third (gather_taken fetch hold take) 7 0 gather_task (at 4 3 ∷ at 5 2 ∷ at 6 2 ∷ [])
    acts = record {
      in_order = (refl, (refl, tt));
      only = ((refl, lit< tt), ((refl, lit< tt), ((refl, lit< tt), tt)));
      fetches = λ i h. subst (λ (k : ℕ). is_named (gather_taken fetch hold take) 0 Fetches k (at 4 3 ∷ at 5 2 ∷ at 6 2 ∷ []) ≡ true) (sym (only_two i h)) refl;
      puts = none Puts (λ i. refl);
      diffs = none Diffs (λ i. refl);
      takes = all_named-one tiny_third (gather_taken fetch hold take) 0 gather_task Takes (at 4 3 ∷ at 5 2 ∷ at 6 2 ∷ []) DegradedRead ThirdParty 1 refl refl (λ i. refl) refl;
      holds = all_named-one tiny_third (gather_taken fetch hold take) 0 gather_task Holds (at 4 3 ∷ at 5 2 ∷ at 6 2 ∷ []) DegradedRead ThirdParty 1 refl refl (λ i. refl) refl;
    }

pub gathered-runs : GatheredRuns
gathered-runs fetch hold take f h t = (
  (refl, close-gathered fetch hold take),
  (
    (refl, (refl, (lit< tt, (gather_task, record { act = record { opening = (refl, lit< tt); in_book = refl; of_task = refl; not_gone = refl; not_shut = refl; once = refl; same_life = refl; at_row = refl; whole = refl; spelt = t }; taken = refl })))),
    (
      (refl, (refl, (lit< tt, (gather_task, record { act = record { opening = (refl, lit< tt); in_book = refl; of_task = refl; not_gone = refl; not_shut = refl; once = refl; same_life = refl; at_row = refl; whole = refl; spelt = h }; kept_here = refl; not_handed = refl; fetched = ((refl, (refl, lit< tt)), tt); made = refl })))),
      (
        (refl, (refl, (lit< tt, (gather_task, record { act = record { opening = (refl, lit< tt); in_book = refl; of_task = refl; not_gone = refl; not_shut = refl; once = refl; same_life = refl; at_row = refl; whole = refl; spelt = f }; read = refl })))),
        (
          (refl, (refl, record { numbered = refl; sound = gather_sound; decided = refl; alone = refl; room = refl })),
          (
            (refl, (refl, (lit< tt, record { at_target = refl; names_loss = (refl, lit< tt); not_known = refl }))),
            (
              (tt, (refl, (lit< tt, record { says_life = refl; says_owners = refl }))),
              tt,
            ),
          ),
        ),
      ),
    ),
  ),
)

pub refused-runs : RefusedRuns
refused-runs = (
  (refl, (refl, tt)),
  (
    (refl, (refl, (lit< tt, record { at_target = refl; names_loss = (refl, lit< tt); not_known = refl }))),
    (
      (refl, (refl, (lit< tt, record { says_life = refl; says_owners = refl }))),
      (
        (refl, (refl, (lit< tt, record { at_target = refl; names_loss = (refl, lit< tt); not_known = refl }))),
        (
          (tt, (refl, (lit< tt, record { says_life = refl; says_owners = refl }))),
          tt,
        ),
      ),
    ),
  ),
)
