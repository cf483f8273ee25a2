-- Missing and absent units as numbers: a unit is missing where more losses were noted than swaps came before its newest
-- rebuild that is done, and absent where a loss came in that life of its disk or a later one.
use Rattle.std.specs.Prelude.{◌≡◌, ◌==◌, ◌&&◌, ◌||◌, ◌<◌, ◌≤◌, ◌⊎◌, nat_lt, ℕ, suc, ◌+◌, true, false, List, [], ◌∷◌, Some}
use Rattle.std.proofs.Common.{refl, ap, sym, ◌∙◌, cond, arith, subst, inl, inr}
use Rattle.std.proofs.lemmas.Bool.{eq-eqb, ne_eqb, eqb-true, le-leb, lt-ltb, le-ltb, cases_eq, cases_Bool, and_from, and_parts, and_left, and_right, or_from, false≢true, cond-true, cond-false}
use Rattle.array_journal.specs.declared.entry.Entry.{Entry}
use Rattle.array_journal.specs.declared.event.Event.{Event}
use Rattle.array_journal.specs.declared.event.Event.TheVariants.{Put, Open, Note}
use Rattle.array_journal.specs.declared.setting.Setting.{Setting}
use Rattle.array_journal.specs.declared.task.Task.{Task}
use Rattle.array_journal.specs.Entries.{some_at}
use Rattle.array_journal.specs.Commands.{task_of}
use Rattle.array_journal.specs.declared.act.Act.TheVariants.{Puts}
use Rattle.array_journal.specs.Lives.{is_note_of, is_gone, life_of, swap_count, is_unfitted, rebuilds, closes_done, has_rebuilt, puts_rebuilt, opens_rebuilt, is_loss, absent_in, missing_in, is_missing}
use Rattle.array_journal.specs.May.{MayBook}
use Rattle.array_journal.specs.Run.{Grows}
use Rattle.array_journal.specs.Laws.{note_count, unfitted_count, is_loss_from}
use Rattle.array_journal.proofs.runs.Standing.{may-book, may-here, some_at-here, some_at-else, some_at-newest}
use Rattle.array_journal.proofs.runs.CommandLaws.{task_of-more}
use Rattle.array_journal.proofs.lives.LifeLaws.{notes-swaps, working-loss, DiskStep, loses, renews, keeps, disk-step}
use Rattle.array_journal.proofs.held.HeldOwners.{act-asks, act-works}
use Rattle.array_journal.proofs.lives.DoneRebuilds.{opens-rebuilt, puts-rebuilt, IsRebuild, rebuild-task, rebuild-fitted, opened-task}
use Rattle.array_journal.proofs.lives.RebuiltLives.{rebuilt_in, put_life_in, rebuilt-le, put_life-le}

-- the tasks of commands are the same in all entries
abbrev Agrees : List Entry → List Entry → Type 0
Agrees whole past = (c : ℕ) (task : Task) → task_of c past ≡ Some task → task_of c whole ≡ Some task

agrees-older : (s : Setting) (whole : List Entry) (e : Entry) (past : List Entry) → Grows s (e ∷ past) → Agrees whole (e ∷ past) → Agrees whole past
agrees-older s whole e past g all c task h = all c task (task_of-more s c e past task g.1 g.0.1 h)

-- a missing unit: more notes than swaps before the newest rebuild that is done
missing-counted : (s : Setting) (whole : List Entry) (i stripe : ℕ) (past : List Entry) → Grows s past → Agrees whole past →
    missing_in whole i stripe past ≡ nat_lt (rebuilt_in whole i stripe past) (note_count i past)
missing-counted s whole i stripe [] g all = refl
missing-counted s whole i stripe (e ∷ past) g all = elim (cases_Bool ((e.lock == 0) && is_note_of i e.event)) [
  | inl noted ↦ note noted
  | inr quiet ↦ elim (cases_Bool ((e.lock == 0) && opens_rebuilt whole i stripe e.event)) [
    | inl opened ↦ opening quiet opened
    | inr other ↦ cond-false ((e.lock == 0) && is_note_of i e.event) true _ quiet ∙ cond-false ((e.lock == 0) && opens_rebuilt whole i stripe e.event) false _ other
        ∙ missing-counted s whole i stripe past g.1 (agrees-older s whole e past g all)
        ∙ ap (λ (n : ℕ). nat_lt n (note_count i past)) (sym (cond-false ((e.lock == 0) && opens_rebuilt whole i stripe e.event) (swap_count i past) (rebuilt_in whole i stripe past) other))
        ∙ ap (λ (n : ℕ). nat_lt (rebuilt_in whole i stripe (e ∷ past)) n)
        (sym (cond-false ((e.lock == 0) && is_note_of i e.event) (suc (note_count i past)) (note_count i past) quiet))
  ]
]
  where
    not_both : (event : Event) → is_note_of i event ≡ true → opens_rebuilt whole i stripe event ≡ false
    not_both (Note slot lost) h = refl
    not_both _ h = absurd (false≢true h)

    note : ((e.lock == 0) && is_note_of i e.event) ≡ true → missing_in whole i stripe (e ∷ past) ≡ nat_lt (rebuilt_in whole i stripe (e ∷ past)) (note_count i (e ∷ past))
    note noted =
        let b : rebuilt_in whole i stripe (e ∷ past) ≡ rebuilt_in whole i stripe past =
        cond-false ((e.lock == 0) && opens_rebuilt whole i stripe e.event) (swap_count i past) (rebuilt_in whole i stripe past)
        (and_right (e.lock == 0) (opens_rebuilt whole i stripe e.event) (not_both e.event (and_parts (e.lock == 0) (is_note_of i e.event) noted).1)) in
        let n : note_count i (e ∷ past) ≡ suc (note_count i past) =
        cond-true ((e.lock == 0) && is_note_of i e.event) (suc (note_count i past)) (note_count i past) noted in
        let r : rebuilt_in whole i stripe past ≤ swap_count i past = rebuilt-le whole i stripe past in
        let w : note_count i past ≡ swap_count i past + unfitted_count i past = notes-swaps s i past g.1 in
        cond-true ((e.lock == 0) && is_note_of i e.event) true _ noted
        ∙ sym (lt-ltb (rebuilt_in whole i stripe (e ∷ past)) (note_count i (e ∷ past)) (omega arith))

    opening : ((e.lock == 0) && is_note_of i e.event) ≡ false → ((e.lock == 0) && opens_rebuilt whole i stripe e.event) ≡ true →
        missing_in whole i stripe (e ∷ past) ≡ nat_lt (rebuilt_in whole i stripe (e ∷ past)) (note_count i (e ∷ past))
    opening quiet opened =
        let parts : ((e.lock == 0) ≡ true) × (opens_rebuilt whole i stripe e.event ≡ true) = and_parts (e.lock == 0) (opens_rebuilt whole i stripe e.event) opened in
        let book : e.lock ≡ 0 = eqb-true e.lock 0 parts.0 in
        let o : (c : ℕ) × ((task : Task) × ((e.event ≡ Open c task) × (has_rebuilt whole i stripe c ≡ true))) = opens-rebuilt whole i stripe e.event parts.1 in
        let its : task_of o.0 whole ≡ Some o.1.0 = all o.0 o.1.0 (opened-task o.0 o.1.0 e past book o.1.1.0) in
        let rebuild : IsRebuild i stripe o.1.0 =
        rebuild-task i stripe o.1.0
        (sym (ap (rebuilds i stripe) its) ∙ (and_parts (rebuilds i stripe (task_of o.0 whole)) (some_at 0 (closes_done o.0) whole) o.1.1.1).0) in
        let fitted : is_unfitted i past ≡ false =
        rebuild-fitted s past o.0 i stripe o.1.0 (subst (λ (x : Event). MayBook s past e.stamp x) o.1.1.0 (may-book s past e.stamp e.lock e.event book g.0.1.1)) rebuild in
        let u : unfitted_count i past ≡ 0 = ap (λ b. cond b 1 0) fitted in
        let w : note_count i past ≡ swap_count i past + unfitted_count i past = notes-swaps s i past g.1 in
        let n : note_count i (e ∷ past) ≡ note_count i past =
        cond-false ((e.lock == 0) && is_note_of i e.event) (suc (note_count i past)) (note_count i past) quiet in
        let r : rebuilt_in whole i stripe (e ∷ past) ≡ swap_count i past =
        cond-true ((e.lock == 0) && opens_rebuilt whole i stripe e.event) (swap_count i past) (rebuilt_in whole i stripe past) opened in
        cond-false ((e.lock == 0) && is_note_of i e.event) true _ quiet ∙ cond-true ((e.lock == 0) && opens_rebuilt whole i stripe e.event) false _ opened
        ∙ sym (le-ltb (rebuilt_in whole i stripe (e ∷ past)) (note_count i (e ∷ past)) (omega arith))

-- an absent unit: a loss in the life of the newest put of a rebuild that is done, or later
pub absent-counted : (s : Setting) (whole : List Entry) (i stripe : ℕ) (past : List Entry) → Grows s past →
    absent_in whole i stripe past ≡ some_at (i + 1) (is_loss_from (put_life_in whole i stripe past)) past
absent-counted s whole i stripe [] g = refl
absent-counted s whole i stripe (e ∷ past) g = elim (cases_eq e.lock (i + 1)) [
  | inl here ↦ at_disk here (absent-counted s whole i stripe past g.1) (cases_Bool (puts_rebuilt whole i stripe e.event))
      (disk-step i s past e.stamp e.event (may-here s past e.stamp e.lock i e.event here g.0.1.1))
  | inr other ↦ cond-false ((e.lock == i + 1) && is_loss e.event) true _ (and_left (e.lock == i + 1) (is_loss e.event) (ne_eqb e.lock (i + 1) other))
      ∙ cond-false ((e.lock == i + 1) && puts_rebuilt whole i stripe e.event) false _ (elsewhere other)
      ∙ absent-counted s whole i stripe past g.1
      ∙ sym (some_at-else (i + 1) (is_loss_from (put_life_in whole i stripe past)) e past other)
      ∙ ap (λ (n : ℕ). some_at (i + 1) (is_loss_from n) (e ∷ past))
      (sym (cond-false ((e.lock == i + 1) && puts_rebuilt whole i stripe e.event) (life_of i past) (put_life_in whole i stripe past) (elsewhere other)))
]
  where
    elsewhere : (e.lock ≡ i + 1 → ⊥) → ((e.lock == i + 1) && puts_rebuilt whole i stripe e.event) ≡ false
    elsewhere other = and_left (e.lock == i + 1) (puts_rebuilt whole i stripe e.event) (ne_eqb e.lock (i + 1) other)

    -- the put of a rebuild that is done
    putting : e.lock ≡ i + 1 → puts_rebuilt whole i stripe e.event ≡ true → is_loss e.event ≡ false → ((w : ℕ) → is_loss_from w e.event ≡ false) →
        absent_in whole i stripe (e ∷ past) ≡ some_at (i + 1) (is_loss_from (put_life_in whole i stripe (e ∷ past))) (e ∷ past)
    putting here p l v =
        cond-false ((e.lock == i + 1) && is_loss e.event) true _ (and_right (e.lock == i + 1) (is_loss e.event) l)
        ∙ cond-true ((e.lock == i + 1) && puts_rebuilt whole i stripe e.event) false _ (and_from (e.lock == i + 1) (puts_rebuilt whole i stripe e.event) (eq-eqb e.lock (i + 1) here) p)
        ∙ sym (ap (λ (n : ℕ). some_at (i + 1) (is_loss_from n) (e ∷ past))
        (cond-true ((e.lock == i + 1) && puts_rebuilt whole i stripe e.event) (life_of i past) (put_life_in whole i stripe past)
        (and_from (e.lock == i + 1) (puts_rebuilt whole i stripe e.event) (eq-eqb e.lock (i + 1) here) p))
        ∙ some_at-here (i + 1) (is_loss_from (life_of i past)) e past here ∙ or_from (is_loss_from (life_of i past) e.event) _ (v (life_of i past)) none)
      where
        works : is_gone i past ≡ false
        works = act-works s past e.stamp i (puts-rebuilt whole i stripe e.event p).0 Puts
            (act-asks s past e.stamp i (puts-rebuilt whole i stripe e.event p).0 Puts e.event (may-here s past e.stamp e.lock i e.event here g.0.1.1)
            (puts-rebuilt whole i stripe e.event p).1.0)

        none : some_at (i + 1) (is_loss_from (life_of i past)) past ≡ false
        none = elim (cases_Bool (some_at (i + 1) (is_loss_from (life_of i past)) past)) [
          | inl lost ↦ let x : life_of i past < life_of i past = working-loss s i (life_of i past) past g.1 works lost in absurd (omega arith)
          | inr kept ↦ kept
        ]

    quiet : e.lock ≡ i + 1 → absent_in whole i stripe past ≡ some_at (i + 1) (is_loss_from (put_life_in whole i stripe past)) past →
        puts_rebuilt whole i stripe e.event ≡ false → is_loss e.event ≡ false → ((w : ℕ) → is_loss_from w e.event ≡ false) →
        absent_in whole i stripe (e ∷ past) ≡ some_at (i + 1) (is_loss_from (put_life_in whole i stripe (e ∷ past))) (e ∷ past)
    quiet here old p l v =
        cond-false ((e.lock == i + 1) && is_loss e.event) true _ (and_right (e.lock == i + 1) (is_loss e.event) l)
        ∙ cond-false ((e.lock == i + 1) && puts_rebuilt whole i stripe e.event) false _ (and_right (e.lock == i + 1) (puts_rebuilt whole i stripe e.event) p)
        ∙ old
        ∙ sym (ap (λ (n : ℕ). some_at (i + 1) (is_loss_from n) (e ∷ past))
        (cond-false ((e.lock == i + 1) && puts_rebuilt whole i stripe e.event) (life_of i past) (put_life_in whole i stripe past)
        (and_right (e.lock == i + 1) (puts_rebuilt whole i stripe e.event) p))
        ∙ some_at-here (i + 1) (is_loss_from (put_life_in whole i stripe past)) e past here
        ∙ ap (λ b. b || some_at (i + 1) (is_loss_from (put_life_in whole i stripe past)) past) (v (put_life_in whole i stripe past)))

    no_put : (event : Event) → is_loss event ≡ true → puts_rebuilt whole i stripe event ≡ false
    no_put (Put command opened cdb row bytes names) h = absurd (false≢true h)
    no_put _ h = refl

    at_disk : e.lock ≡ i + 1 → absent_in whole i stripe past ≡ some_at (i + 1) (is_loss_from (put_life_in whole i stripe past)) past →
        (puts_rebuilt whole i stripe e.event ≡ true) ⊎ (puts_rebuilt whole i stripe e.event ≡ false) → DiskStep i past e.stamp e.event →
        absent_in whole i stripe (e ∷ past) ≡ some_at (i + 1) (is_loss_from (put_life_in whole i stripe (e ∷ past))) (e ∷ past)
    at_disk here old p (loses l f a v) =
        cond-true ((e.lock == i + 1) && is_loss e.event) true _ (and_from (e.lock == i + 1) (is_loss e.event) (eq-eqb e.lock (i + 1) here) l)
        ∙ sym (ap (λ (n : ℕ). some_at (i + 1) (is_loss_from n) (e ∷ past))
        (cond-false ((e.lock == i + 1) && puts_rebuilt whole i stripe e.event) (life_of i past) (put_life_in whole i stripe past)
        (and_right (e.lock == i + 1) (puts_rebuilt whole i stripe e.event) (no_put e.event l)))
        ∙ some_at-newest (i + 1) (is_loss_from (put_life_in whole i stripe past)) e past here
        (v (put_life_in whole i stripe past) ∙ le-leb (put_life_in whole i stripe past) (life_of i past) (put_life-le whole i stripe past)))
    at_disk here old (inl p) (renews l f a v call swap k m) = putting here p l v
    at_disk here old (inl p) (keeps l f a v) = putting here p l v
    at_disk here old (inr p) (renews l f a v call swap k m) = quiet here old p l v
    at_disk here old (inr p) (keeps l f a v) = quiet here old p l v

pub missing-here : (s : Setting) (i stripe : ℕ) (past : List Entry) → Grows s past → is_missing i stripe past ≡ nat_lt (rebuilt_in past i stripe past) (note_count i past)
missing-here s i stripe past g = missing-counted s past i stripe past g (λ c task q. q)
