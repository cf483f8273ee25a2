-- Of the open commands whose task passes a test, the one that was opened first is the least, since commands are numbered
-- as they are opened.
use Rattle.std.proofs.Common.{◌≡◌, ◌==◌, ◌&&◌, ◌||◌, ℕ, suc, ◌<◌, ◌≤◌, Bool, true, false, not, List, [], ◌∷◌, ◌++◌, Option, Some, None, length, cond, refl, ap, sym, ◌∙◌, subst, arith, inl, inr}
use Rattle.std.specs.Prelude.{MatchOption}
use Rattle.std.proofs.lemmas.Bool.{cases_eq, eq-eqb, eqb-true, ne_eqb, false≢true}
use Rattle.std.proofs.lemmas.List.{append-nil}
use Rattle.array_journal.specs.declared.entry.Entry.{Entry}
use Rattle.array_journal.specs.declared.event.Event.{Event}
use Rattle.array_journal.specs.declared.event.Event.TheVariants.{Open}
use Rattle.array_journal.specs.declared.task.Task.{Task}
use Rattle.array_journal.specs.Commands.{opens, opens_command, open_count, task_of, task_given, first_task}
use Rattle.array_journal.specs.Entries.{some_at}
use Rattle.array_book.specs.declared.commands.open_commands.OpenCommand.{OpenCommand}
use Rattle.array_book.specs.Ledgers.{IsNumbered, AreNumbered}
use Rattle.array_book.specs.OpenCommands.{has_ended, open_by, open_in, task_by, tasks_in}
use Rattle.array_book.specs.OpenTasks.{passes_task, first_of, first_open}
use Rattle.array_book.specs.Waits.{IsOpenSo, IsLeastOpen}
use Rattle.array_book.proofs.OpenPlaces.{tasks-len}

-- a command that was opened has a smaller number than the next
pub opened-below : (past : List Entry) → AreNumbered past → (c : ℕ) → some_at 0 (opens_command c) past ≡ true → c < open_count past
opened-below [] numbered c h = absurd (false≢true h)
opened-below (e ∷ past) numbered c h = by_event (e.lock == 0) e.event numbered.0 (opened-below past numbered.1 c) h
  where
    by_number : (n : ℕ) (same : Bool) → n ≡ open_count past → (n == c) ≡ same → (some_at 0 (opens_command c) past ≡ true → c < open_count past) →
        (same || some_at 0 (opens_command c) past) ≡ true → c < suc (open_count past)
    by_number n true number is before h = let e : n ≡ c = eqb-true n c is in omega arith
    by_number n false number is before h = let lt : c < open_count past = before h in omega arith

    by_event : (book : Bool) (event : Event) → IsNumbered event past → (some_at 0 (opens_command c) past ≡ true → c < open_count past) →
        ((book && opens_command c event) || some_at 0 (opens_command c) past) ≡ true → c < cond (book && opens event) (suc (open_count past)) (open_count past)
    by_event true (Open n task) number before h = by_number n (n == c) number refl before h
    by_event true event number before h = before h
    by_event false event number before h = before h

-- what is known of the first command that passes: it is opened and not ended, and so is none that is less
abbrev pub IsFirst : (opened ended : ℕ → Bool) → (ℕ → Option Task) → (Task → Bool) → Option ℕ → Type 0
IsFirst opened ended task test None = (c : ℕ) → opened c ≡ true → ended c ≡ false → passes_task test (task c) ≡ true → ⊥
IsFirst opened ended task test (Some by) =
    ((opened by ≡ true) × ((ended by ≡ false) × (passes_task test (task by) ≡ true)))
    × ((c : ℕ) → opened c ≡ true → ended c ≡ false → passes_task test (task c) ≡ true → by ≤ c)

abbrev pub or_else : Option ℕ → Option ℕ → Option ℕ
or_else (Some a) b = Some a
or_else None b = b

-- one more command behind the others
first_of-append : (test : Task → Bool) (cs : List OpenCommand) (ts : List Task) (c : OpenCommand) (t : Task) → length cs ≡ length ts →
    first_of test (cs ++ c ∷ []) (ts ++ t ∷ []) ≡ or_else (first_of test cs ts) (cond (test t) (Some c.command) None)
first_of-append test [] [] c t e = refl
first_of-append test [] (x ∷ ts) c t e = let no : ⊥ = omega arith in absurd no
first_of-append test (x ∷ cs) [] c t e = let no : ⊥ = omega arith in absurd no
first_of-append test (x ∷ cs) (y ∷ ts) c t e = by_test (test y) (first_of-append test cs ts c t (omega arith))
  where
    by_test : (b : Bool) → first_of test (cs ++ c ∷ []) (ts ++ t ∷ []) ≡ or_else (first_of test cs ts) (cond (test t) (Some c.command) None) →
        cond b (Some x.command) (first_of test (cs ++ c ∷ []) (ts ++ t ∷ [])) ≡ or_else (cond b (Some x.command) (first_of test cs ts)) (cond (test t) (Some c.command) None)
    by_test true h = refl
    by_test false h = h

-- one more command, which has the next number
module _ (test : Task → Bool) (opened ended : ℕ → Bool) (tasks : ℕ → Option Task) (n : ℕ) (task : Task) (below : (c : ℕ) → opened c ≡ true → c < n) where
  abbrev more_opened : ℕ → Bool
  more_opened c = (n == c) || opened c

  abbrev more_tasks : ℕ → Option Task
  more_tasks c = first_task (cond (n == c) (Some task) None) (tasks c)

  -- it is none of the older ones
  apart : (c : ℕ) → opened c ≡ true → (n == c) ≡ false
  apart c h = let lt : c < n = below c h in ne_eqb n c (λ q. omega (arith, q, lt))

  opened_older : (c : ℕ) → (n == c) ≡ false → more_opened c ≡ opened c
  opened_older c other = ap (λ (b : Bool). b || opened c) other

  passes_older : (c : ℕ) → (n == c) ≡ false → passes_task test (more_tasks c) ≡ passes_task test (tasks c)
  passes_older c other = ap (λ (b : Bool). passes_task test (first_task (cond b (Some task) None) (tasks c))) other

  opened_newest : more_opened n ≡ true
  opened_newest = ap (λ (b : Bool). b || opened n) (eq-eqb n n refl)

  passes_newest : (c : ℕ) → n ≡ c → passes_task test (more_tasks c) ≡ test task
  passes_newest c same = ap (λ (b : Bool). passes_task test (first_task (cond b (Some task) None) (tasks c))) (eq-eqb n c same)

  -- an older one that passes still does
  still : (by : ℕ) → (opened by ≡ true) × ((ended by ≡ false) × (passes_task test (tasks by) ≡ true)) →
      (more_opened by ≡ true) × ((ended by ≡ false) × (passes_task test (more_tasks by) ≡ true))
  still by h =
      let other : (n == by) ≡ false = apart by h.0 in
      (opened_older by other ∙ h.0, (h.1.0, passes_older by other ∙ h.1.1))

  -- the newest has ended
  newest_ended : (found : Option ℕ) → ended n ≡ true → IsFirst opened ended tasks test found → IsFirst more_opened ended more_tasks test found
  newest_ended None over h = λ c o e p. elim (cases_eq n c) [
    | inl same ↦ absurd (false≢true (sym e ∙ ap ended (sym same) ∙ over))
    | inr other ↦ let q : (n == c) ≡ false = ne_eqb n c other in h c (sym (opened_older c q) ∙ o) e (sym (passes_older c q) ∙ p)
  ]
  newest_ended (Some by) over h = (
    still by h.0,
    λ c o e p. elim (cases_eq n c) [
      | inl same ↦ absurd (false≢true (sym e ∙ ap ended (sym same) ∙ over))
      | inr other ↦ let q : (n == c) ≡ false = ne_eqb n c other in h.1 c (sym (opened_older c q) ∙ o) e (sym (passes_older c q) ∙ p)
    ],
  )

  -- or it is open
  newest_open : (found : Option ℕ) (passing : Bool) → ended n ≡ false → test task ≡ passing → IsFirst opened ended tasks test found →
      IsFirst more_opened ended more_tasks test (or_else found (cond passing (Some n) None))
  newest_open (Some by) passing open_still is h = (
    still by h.0,
    λ c o e p. elim (cases_eq n c) [
      | inl same ↦ let lt : by < n = below by h.0.0 in omega (arith, lt, same)
      | inr other ↦ let q : (n == c) ≡ false = ne_eqb n c other in h.1 c (sym (opened_older c q) ∙ o) e (sym (passes_older c q) ∙ p)
    ],
  )
  newest_open None true open_still is h = (
    (opened_newest, (open_still, passes_newest n refl ∙ is)),
    λ c o e p. elim (cases_eq n c) [
      | inl same ↦ omega (arith, same)
      | inr other ↦ let q : (n == c) ≡ false = ne_eqb n c other in absurd (h c (sym (opened_older c q) ∙ o) e (sym (passes_older c q) ∙ p))
    ],
  )
  newest_open None false open_still is h = λ c o e p. elim (cases_eq n c) [
    | inl same ↦ absurd (false≢true (sym is ∙ sym (passes_newest c same) ∙ p))
    | inr other ↦ let q : (n == c) ≡ false = ne_eqb n c other in h c (sym (opened_older c q) ∙ o) e (sym (passes_older c q) ∙ p)
  ]

  one-more : (found : Option ℕ) (over : Bool) → ended n ≡ over → IsFirst opened ended tasks test found →
      IsFirst more_opened ended more_tasks test (cond over found (or_else found (cond (test task) (Some n) None)))
  one-more found true is h = newest_ended found is h
  one-more found false is h = newest_open found (test task) is refl h

-- the first of the commands that didn't end
first-is : (test : Task → Bool) (ended : ℕ → Bool) (past : List Entry) → AreNumbered past →
    IsFirst (λ c. some_at 0 (opens_command c) past) ended (λ c. task_of c past) test (first_of test (open_in ended past) (tasks_in ended past))
first-is test ended [] numbered = λ c o e p. absurd (false≢true o)
first-is test ended (e ∷ past) numbered = by_event (first-is test ended past numbered.1) (e.lock == 0) e.event numbered.0
  where
    quiet : first_of test (open_in ended past) (tasks_in ended past) ≡ first_of test (open_in ended past ++ []) (tasks_in ended past ++ [])
    quiet =
        ap (λ (cs : List OpenCommand). first_of test cs (tasks_in ended past)) (sym (append-nil (open_in ended past)))
        ∙ ap (λ (ts : List Task). first_of test (open_in ended past ++ []) ts) (sym (append-nil (tasks_in ended past)))

    opening : (m : ℕ) (task : Task) (over : Bool) →
        cond over (first_of test (open_in ended past) (tasks_in ended past)) (or_else (first_of test (open_in ended past) (tasks_in ended past)) (cond (test task) (Some m) None))
        ≡ first_of test (open_in ended past ++ cond over [] (record { command = m; place = length past } ∷ [])) (tasks_in ended past ++ cond over [] (task ∷ []))
    opening m task true = quiet
    opening m task false =
        sym (first_of-append test (open_in ended past) (tasks_in ended past) (record { command = m; place = length past }) task (sym (tasks-len ended past)))

    by_event : IsFirst (λ c. some_at 0 (opens_command c) past) ended (λ c. task_of c past) test (first_of test (open_in ended past) (tasks_in ended past)) →
        (book : Bool) (event : Event) → IsNumbered event past →
        IsFirst (λ c. (book && opens_command c event) || some_at 0 (opens_command c) past) ended (λ c. first_task (cond book (task_given c event) None) (task_of c past)) test
        (first_of test (open_in ended past ++ cond book (open_by ended (length past) event) []) (tasks_in ended past ++ cond book (task_by ended event) []))
    by_event before true (Open m task) number =
        subst (λ (found : Option ℕ). IsFirst (λ c. (m == c) || some_at 0 (opens_command c) past) ended (λ c. first_task (cond (m == c) (Some task) None) (task_of c past)) test found)
        (opening m task (ended m))
        (one-more test (λ c. some_at 0 (opens_command c) past) ended (λ c. task_of c past) m task
        (λ c h. let lt : c < open_count past = opened-below past numbered.1 c h in omega (arith, number, lt))
        (first_of test (open_in ended past) (tasks_in ended past)) (ended m) refl before)
    by_event before true event number =
        subst (λ (found : Option ℕ). IsFirst (λ c. some_at 0 (opens_command c) past) ended (λ c. task_of c past) test found) quiet before
    by_event before false event number =
        subst (λ (found : Option ℕ). IsFirst (λ c. some_at 0 (opens_command c) past) ended (λ c. task_of c past) test found) quiet before

open-parts : (a b : Bool) → (a && not b) ≡ true → (a ≡ true) × (b ≡ false)
open-parts true false h = (refl, refl)
open-parts true true h = absurd (false≢true h)
open-parts false b h = absurd (false≢true h)

open-whole : (a b : Bool) → a ≡ true → b ≡ false → (a && not b) ≡ true
open-whole true false h k = refl
open-whole true true h k = absurd (false≢true (sym k))
open-whole false b h k = absurd (false≢true h)

-- so the one that was opened first is the least, and where there is none, no open command passes
pub least-open : (test : Task → Bool) (past : List Entry) (found : Option ℕ) → AreNumbered past → found ≡ first_open test past →
    MatchOption found ((c : ℕ) → IsOpenSo past test c → ⊥) (λ by. IsLeastOpen past test by)
least-open test past found numbered is =
    by_found found (subst (λ (f : Option ℕ). IsFirst (λ c. some_at 0 (opens_command c) past) (has_ended past) (λ c. task_of c past) test f) (sym is) (first-is test (has_ended past) past numbered))
  where
    by_found : (f : Option ℕ) → IsFirst (λ c. some_at 0 (opens_command c) past) (has_ended past) (λ c. task_of c past) test f →
        MatchOption f ((c : ℕ) → IsOpenSo past test c → ⊥) (λ by. IsLeastOpen past test by)
    by_found None h = λ c so.
        let parts : (some_at 0 (opens_command c) past ≡ true) × (has_ended past c ≡ false) = open-parts (some_at 0 (opens_command c) past) (has_ended past c) so.open_still in
        h c parts.0 parts.1 so.passes
    by_found (Some by) h = record {
      one = record { open_still = open-whole (some_at 0 (opens_command by) past) (has_ended past by) h.0.0 h.0.1.0; passes = h.0.1.1 };
      least = λ c so.
          let parts : (some_at 0 (opens_command c) past ≡ true) × (has_ended past c ≡ false) = open-parts (some_at 0 (opens_command c) past) (has_ended past c) so.open_still in
          h.1 c parts.0 parts.1 so.passes;
    }
