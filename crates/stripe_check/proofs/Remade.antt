-- A unit that is made anew isn't absent from there on.
use Rattle.std.proofs.Common.{◌≡◌, ◌≢◌, ℕ, zero, suc, ◌+◌, ◌<◌, ◌≤◌, ◌&&◌, ◌==◌, nat_lt, Bool, true, false, cond, List, [], ◌∷◌, length, get_or, set, Option, Some, None, refl, ap, sym, ◌∙◌, arith, ⊎_elim, get_or-set_same, get_or-set_other, length-set}
use Rattle.std.specs.Option.{option_map}
use Rattle.std.proofs.lemmas.Bool.{cases_eq, eq-eqb, ne_eqb}
use Rattle.std.proofs.lemmas.Bool.Decides.{nat_tests}
use Rattle.stripe_layout.specs.Layout.{stripes_of}
use Rattle.array_journal.specs.declared.entry.Entry.{Entry}
use Rattle.array_journal.specs.declared.setting.Setting.{Setting}
use Rattle.array_journal.specs.declared.task.Task.{Task}
use Rattle.array_journal.specs.Lives.{is_loss, puts_rebuilt, rebuilds, is_rebuild, absent_in}
use Rattle.stripe_check.specs.Folds.{brief_of, briefly_rebuilt_by}
use Rattle.stripe_check.specs.AbsentUnits.{AreLosses}

-- a place that is set stays below a bound
get_or-set_le : (xs : List ℕ) (k n v bound : ℕ) → get_or xs n 0 ≤ bound → v ≤ bound → get_or (set xs k v) n 0 ≤ bound
get_or-set_le [] k n v bound h i = h
get_or-set_le (x ∷ xs) zero zero v bound h i = i
get_or-set_le (x ∷ xs) zero (suc n) v bound h i = h
get_or-set_le (x ∷ xs) (suc k) zero v bound h i = h
get_or-set_le (x ∷ xs) (suc k) (suc n) v bound h i = get_or-set_le xs k n v bound h i

rebuilt-task : (t : Task) (done : Bool) (i stripe str : ℕ) → (kind target : Bool) → kind ≡ is_rebuild t.kind → target ≡ (t.target == i) →
    cond (done && kind && target) (Some t.stripe) None ≡ Some stripe → ((kind && target && (t.stripe == str)) && done) ≡ (stripe == str)
rebuilt-task t true i stripe str true true e f h = let same : t.stripe ≡ stripe = cc in grind (arith, nat_tests, same)
rebuilt-task t true i stripe str true false e f h = absurd cc
rebuilt-task t true i stripe str false target e f h = absurd cc
rebuilt-task t false i stripe str kind target e f h = absurd cc

-- which stripe a command rebuilt, as its brief tells it
pub rebuilt-briefly : (o : Option Task) (done : Bool) (i stripe str : ℕ) → briefly_rebuilt_by (option_map brief_of o) done i ≡ Some stripe →
    (rebuilds i str o && done) ≡ (stripe == str)
rebuilt-briefly None done i stripe str h = absurd cc
rebuilt-briefly (Some t) done i stripe str h = rebuilt-task t done i stripe str (is_rebuild t.kind) (t.target == i) refl refl h

-- the unit of target i in a stripe is made anew at the place behind the entries so far
pub remade : (s : Setting) (whole past : List Entry) (e : Entry) (lost : List ℕ) (made : List (List ℕ)) (row : List ℕ) (i stripe place : ℕ) →
    e.lock ≡ i + 1 → i < length made → row ≡ get_or made i [] → place ≡ length past + 1 → is_loss e.event ≡ false → ((str : ℕ) → puts_rebuilt whole i str e.event ≡ (stripe == str)) →
    AreLosses s whole past lost made → AreLosses s whole (e ∷ past) lost (set made i (set row stripe place))
remade s whole past e lost made row i stripe place at lt old here quiet rebuilt was = record {
  lost_count = was.lost_count;
  made_count = length-set made i _ ∙ was.made_count;
  units = λ j h. ⊎_elim (λ same. rw (same-row j same) (length-set row stripe place ∙ ap length old ∙ was.units i (subst-lt j same h)))
      (λ other. rw (other-row j other) (was.units j h)) (cases_eq j i);
  lost_before = λ j. let b = was.lost_before j in omega arith;
  made_before = λ j str. ⊎_elim
      (λ same. rw (same-row j same) (get_or-set_le row stripe str place (length (e ∷ past)) (let b = was.made_before i str in rw old (omega arith)) (omega arith)))
      (λ other. rw (other-row j other) (let b = was.made_before j str in omega arith)) (cases_eq j i);
  absent = λ j str h k. ⊎_elim
      (λ same. rw (same-row j same, eq-eqb e.lock (j + 1) (omega arith), quiet, same) (absent-here str (subst-lt j same h) k ∙ ap (λ x. cond (puts_rebuilt whole i str e.event) false (absent_in whole x str past)) (sym same)))
      (λ other. rw (other-row j other, ne_eqb e.lock (j + 1) (λ z. other (omega arith))) (was.absent j str h k)) (cases_eq j i);
}
  where
    same-row : (j : ℕ) → j ≡ i → get_or (set made i (set row stripe place)) j [] ≡ set row stripe place
    same-row j same = rw same (get_or-set_same made i (set row stripe place) [] lt)

    other-row : (j : ℕ) → j ≢ i → get_or (set made i (set row stripe place)) j [] ≡ get_or made j []
    other-row j other = get_or-set_other made i j (set row stripe place) [] other

    subst-lt : (j : ℕ) → j ≡ i → j < s.geometry.targets → i < s.geometry.targets
    subst-lt j same h = omega arith

    not-before : nat_lt place (get_or lost i 0) ≡ false
    not-before = let b = was.lost_before i in grind (arith, nat_tests)

    at-stripe : (str : ℕ) → stripe ≡ str → str < length row → nat_lt (get_or (set row stripe place) str 0) (get_or lost i 0) ≡ false
    at-stripe str z lt2 = rw (z, get_or-set_same row str place 0 lt2) not-before

    absent-here : (str : ℕ) → i < s.geometry.targets → str < stripes_of s.geometry →
        nat_lt (get_or (set row stripe place) str 0) (get_or lost i 0) ≡ cond (puts_rebuilt whole i str e.event) false (absent_in whole i str past)
    absent-here str h k = ⊎_elim
        (λ z. rw (rebuilt str, eq-eqb stripe str z) (at-stripe str z (rw old (let u = was.units i h in omega arith))))
        (λ z. rw (rebuilt str, ne_eqb stripe str z, get_or-set_other row stripe str place 0 (λ w. z (sym w)), old) (was.absent i str h k)) (cases_eq stripe str)
