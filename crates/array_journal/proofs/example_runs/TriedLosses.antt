-- The journal of a read that meets a loss, and of the degraded read that answers in its place, is a run.
use Rattle.std.specs.Prelude.{◌≡◌, ◌==◌, ◌&&◌, nat_lt, not, ◌⊎◌, ℕ, true, false, List, [], ◌∷◌, Some, None}
use Rattle.std.proofs.Common.{refl, sym, subst, arith, inl, inr, lit<, lit≤}
use Rattle.std.proofs.lemmas.Bool.Decides.{nat_tests}
use Rattle.stripe_layout.specs.declared.mode.Mode.TheVariants.{Supervised}
use Rattle.sbc_cdbs.specs.declared.descriptor.Cdb.{Cdb}
use Rattle.array_journal.specs.declared.entry.Entry.{Entry}
use Rattle.array_journal.specs.declared.task.Kind.TheVariants.{DegradedRead}
use Rattle.array_journal.specs.declared.event.Event.TheVariants.{Fetch, Shut, Gone, Open, Close, Note}
use Rattle.array_journal.specs.declared.act.Act.{Act}
use Rattle.array_journal.specs.declared.act.Act.TheVariants.{Fetches, Puts, Diffs, Takes, Folds, Holds}
use Rattle.array_journal.specs.Acts.{acts_at}
use Rattle.array_journal.specs.May.{May, IsTask, MayAct, NamesActs, AllNamed, is_named}
use Rattle.array_journal.specs.ExampleJournals.{small, at, entry, blank, SpellsAct, first_read, degraded_read, given_up, LossMeetsAReadRuns}
use Rattle.array_journal.proofs.calm.ActSteps.{all_named-none}

-- the entries of the read that meets a loss
abbrev lost : List Entry
lost = entry 1 1 (Gone 0 2 []) ∷ []

abbrev lost_opened : List Entry
lost_opened = entry 2 0 (Open 0 first_read) ∷ lost

abbrev lost_shut : List Entry
lost_shut = entry 3 1 (Shut 0 (at 2 0) false (Some (at 1 1))) ∷ lost_opened

abbrev lost_noted : List Entry
lost_noted = entry 4 0 (Note 0 (at 1 1)) ∷ lost_shut

may-lose : May small [] (entry 1 1 (Gone 0 2 []))
may-lose = (refl, (lit< tt, record { says_life = refl; says_owners = refl }))

may-open_lost : May small lost (entry 2 0 (Open 0 first_read))
may-open_lost = (refl, record { numbered = refl; sound = sound; decided = refl; alone = refl; room = refl })
  where
    sound : IsTask small first_read
    sound = record {
      in_array = lit< tt;
      parity = refl;
      target = lit< tt;
      some_rows = lit≤ tt;
      from_stripe = lit≤ tt;
      to_stripe = lit≤ tt;
      by_kind = ((λ e. cc), refl);
    }

may-shut : May small lost_opened (entry 3 1 (Shut 0 (at 2 0) false (Some (at 1 1))))
may-shut = (
  refl,
  (
    lit< tt,
    (
      first_read,
      record {
        opening = (refl, lit< tt);
        in_book = refl;
        of_task = refl;
        once = refl;
        unanswered = refl;
        says_acted = refl;
        says_lost = refl;
      },
    ),
  ),
)

may-note : May small lost_shut (entry 4 0 (Note 0 (at 1 1)))
may-note = (refl, (lit< tt, record { at_target = refl; names_loss = (refl, lit< tt); not_known = refl }))

may-give_up : May small lost_noted (entry 5 0 (Close 0 false (at 3 1 ∷ []) (Some (at 1 1)) []))
may-give_up = (
  refl,
  (
    first_read,
    (
      (refl, refl),
      record {
        shut = ((refl, (refl, lit< tt)), tt);
        for_cause = inl (0, (refl, record { at_target = refl; lost = (refl, lit< tt); known = refl }));
        no_answer = refl;
      },
    ),
  ),
)

may-open_degraded : May small given_up (entry 6 0 (Open 1 degraded_read))
may-open_degraded = (refl, record { numbered = refl; sound = sound; decided = refl; alone = refl; room = refl })
  where
    sound : IsTask small degraded_read
    sound = record {
      in_array = lit< tt;
      parity = refl;
      target = lit< tt;
      some_rows = lit≤ tt;
      from_stripe = lit≤ tt;
      to_stripe = lit≤ tt;
      by_kind = ((λ e. cc), refl);
    }

abbrev degraded_opened : List Entry
degraded_opened = entry 6 0 (Open 1 degraded_read) ∷ given_up

may-fetch_second : (second : Cdb) → SpellsAct small degraded_read 0 Fetches second → May small degraded_opened (entry 7 2 (Fetch 1 (at 6 0) second 0 blank))
may-fetch_second second spelt = (refl, (lit< tt, (degraded_read, record { act = act; read = refl })))
  where
    act : MayAct small degraded_opened 7 1 1 (at 6 0) second 0 8 0 degraded_read Fetches
    act = record {
      opening = (refl, lit< tt);
      in_book = refl;
      of_task = refl;
      not_gone = refl;
      not_shut = refl;
      once = refl;
      same_life = refl;
      at_row = refl;
      whole = refl;
      spelt = spelt;
    }

abbrev second_fetched : Cdb → List Entry
second_fetched second = entry 7 2 (Fetch 1 (at 6 0) second 0 blank) ∷ degraded_opened

may-fetch_third : (second third : Cdb) → SpellsAct small degraded_read 0 Fetches third →
    May small (second_fetched second) (entry 8 3 (Fetch 1 (at 6 0) third 0 blank))
may-fetch_third second third spelt = (refl, (lit< tt, (degraded_read, record { act = act; read = refl })))
  where
    act : MayAct small (second_fetched second) 8 2 1 (at 6 0) third 0 8 0 degraded_read Fetches
    act = record {
      opening = (refl, lit< tt);
      in_book = refl;
      of_task = refl;
      not_gone = refl;
      not_shut = refl;
      once = refl;
      same_life = refl;
      at_row = refl;
      whole = refl;
      spelt = spelt;
    }

abbrev third_fetched : Cdb → Cdb → List Entry
third_fetched second third = entry 8 3 (Fetch 1 (at 6 0) third 0 blank) ∷ second_fetched second

one_or_two : (i : ℕ) → (nat_lt i 3 && (not (i == 0) && true)) ≡ true → (i ≡ 1) ⊎ (i ≡ 2)
one_or_two i h = grind (arith, nat_tests)

may-close_degraded : (second third : Cdb) → May small (third_fetched second third) (entry 9 0 (Close 1 true (at 7 2 ∷ at 8 3 ∷ []) None blank))
may-close_degraded second third =
    (refl, (degraded_read, ((refl, refl), record { acts = acts; folds = none Folds (λ i. refl); no_cause = refl; answer = refl })))
  where
    none : (act : Act) → ((i : ℕ) → acts_at Supervised act DegradedRead degraded_read i ≡ false) →
        AllNamed small (third_fetched second third) 1 degraded_read act (at 7 2 ∷ at 8 3 ∷ [])
    none act never = all_named-none small (third_fetched second third) 1 degraded_read act (at 7 2 ∷ at 8 3 ∷ []) DegradedRead Supervised refl refl never

    is_fetched : (i : ℕ) → (i ≡ 1) ⊎ (i ≡ 2) → is_named (third_fetched second third) 1 Fetches i (at 7 2 ∷ at 8 3 ∷ []) ≡ true
    is_fetched i (inl e) = subst (λ (k : ℕ). is_named (third_fetched second third) 1 Fetches k (at 7 2 ∷ at 8 3 ∷ []) ≡ true) (sym e) refl
    is_fetched i (inr e) = subst (λ (k : ℕ). is_named (third_fetched second third) 1 Fetches k (at 7 2 ∷ at 8 3 ∷ []) ≡ true) (sym e) refl

    acts : NamesActs small (third_fetched second third) 9 1 degraded_read (at 7 2 ∷ at 8 3 ∷ [])
    acts = record {
      in_order = (refl, tt);
      only = ((refl, lit< tt), ((refl, lit< tt), tt));
      fetches = λ i h. is_fetched i (one_or_two i h);
      puts = none Puts (λ i. refl);
      diffs = none Diffs (λ i. refl);
      takes = none Takes (λ i. refl);
      holds = none Holds (λ i. refl);
    }

pub loss-meets_a_read : LossMeetsAReadRuns
loss-meets_a_read second third r q = (
  (refl, may-close_degraded second third),
  (
    (refl, may-fetch_third second third q),
    (
      (refl, may-fetch_second second r),
      (
        (refl, may-open_degraded),
        (
          (refl, may-give_up),
          (
            (refl, may-note),
            (
              (refl, may-shut),
              (
                (refl, may-open_lost),
                ((tt, may-lose), tt),
              ),
            ),
          ),
        ),
      ),
    ),
  ),
)
