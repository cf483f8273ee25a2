-- What open commands hold, once one of them ends.
use Rattle.std.proofs.Common.{◌≡◌, ◌+◌, ◌<◌, ◌==◌, ◌&&◌, ◌||◌, ℕ, Bool, true, false, not, List, [], ◌∷◌, ◌++◌, Option, Some, None, refl, sym, ap, ◌∙◌, cond, arith, inl, inr}
use Rattle.std.specs.List.{sum_by}
use Rattle.std.proofs.lemmas.Bool.{false≢true, eq-eqb, ne_eqb, cases_eq}
use Rattle.std.proofs.lemmas.List.Sums.{sum_by-append}
use Rattle.array_journal.specs.declared.entry.Entry.{Entry}
use Rattle.array_journal.specs.declared.event.Event.{Event}
use Rattle.array_journal.specs.declared.event.Event.TheVariants.{Open}
use Rattle.array_journal.specs.declared.setting.Setting.{Setting}
use Rattle.array_journal.specs.declared.task.Task.{Task}
use Rattle.array_journal.specs.Commands.{opens_command, task_given, first_task, open_count, task_of}
use Rattle.array_journal.specs.Entries.{some_at}
use Rattle.array_journal.proofs.runs.CommandLaws.{task-opened}
use Rattle.array_book.specs.Ledgers.{IsNumbered, AreNumbered}
use Rattle.array_book.specs.OpenCommands.{has_ended, task_by, tasks_in}
use Rattle.array_book.specs.OpenIndexes.{open_task}
use Rattle.array_book.specs.OpenTasks.{held_where}
use Rattle.array_book.proofs.LeastOpen.{opened-below}
use Rattle.array_book.proofs.OpenLaws.{held_by}

-- which tasks stand hangs only on which commands ended
task_by-alike : (f g : ℕ → Bool) → ((c : ℕ) → f c ≡ g c) → (event : Event) → task_by f event ≡ task_by g event
task_by-alike f g same (Open command task) = ap (λ (b : Bool). cond b [] (task ∷ [])) (same command)
task_by-alike f g same event = refl

pub tasks_in-alike : (f g : ℕ → Bool) → ((c : ℕ) → f c ≡ g c) → (past : List Entry) → tasks_in f past ≡ tasks_in g past
tasks_in-alike f g same [] = refl
tasks_in-alike f g same (e ∷ past) =
    ap (λ (tasks : List Task). tasks ++ cond (e.lock == 0) (task_by f e.event) []) (tasks_in-alike f g same past)
    ∙ ap (λ (tasks : List Task). tasks_in g past ++ cond (e.lock == 0) tasks []) (task_by-alike f g same e.event)

-- a command that wasn't opened has no task
no-task : (past : List Entry) (n m : ℕ) → AreNumbered past → m ≡ open_count past → m ≡ n → task_of n past ≡ None
no-task past n m numbered number same = by_task (task_of n past) refl
  where
    by_task : (o : Option Task) → task_of n past ≡ o → task_of n past ≡ None
    by_task None is = is
    by_task (Some task) is =
        let below : n < open_count past = opened-below past numbered n (task-opened n past task is) in
        absurd (omega (arith, below, number, same))

module _ (s : Setting) (i n : ℕ) (ended : ℕ → Bool) where
  -- what it holds, unless it ended before
  abbrev part : Option Task → ℕ
  part task = cond (ended n) 0 (held_where s i task)

  abbrev also : ℕ → Bool
  also c = (n == c) || ended c

  abbrev held : List Task → ℕ
  held tasks = sum_by (held_by s i) tasks

  -- its opening
  here : (past : List Entry) (task : Task) (fewer all older : ℕ) → fewer + part (task_of n past) ≡ all → task_of n past ≡ None →
      (fewer + held []) + part (Some task) ≡ all + held (cond (ended n) [] (task ∷ []))
  here past task fewer all older before none = by_end (ended n) (ap (λ (o : Option Task). held_where s i o) none) before
    where
      by_end : (b : Bool) → held_where s i (task_of n past) ≡ 0 → fewer + cond b 0 (held_where s i (task_of n past)) ≡ all →
          (fewer + held []) + cond b 0 (held_by s i task) ≡ all + held (cond b [] (task ∷ []))
      by_end true zero_held h = let nothing : held [] ≡ 0 = refl in omega (arith, h, nothing)
      by_end false zero_held h =
          let nothing : held [] ≡ 0 = refl in
          let one : held (task ∷ []) ≡ 0 + held_by s i task = refl in
          omega (arith, h, zero_held, nothing, one)

  opening : (past : List Entry) (m : ℕ) (task : Task) → AreNumbered past → m ≡ open_count past →
      held (tasks_in also past) + part (task_of n past) ≡ held (tasks_in ended past) →
      (held (tasks_in also past) + held (cond (also m) [] (task ∷ []))) + part (first_task (cond (m == n) (Some task) None) (task_of n past))
      ≡ held (tasks_in ended past) + held (cond (ended m) [] (task ∷ []))
  opening past m task numbered number before = elim (cases_eq m n) [
    | inl same ↦ one same
    | inr apart ↦ other apart
  ]
    where
      one : m ≡ n → (held (tasks_in also past) + held (cond (also m) [] (task ∷ []))) + part (first_task (cond (m == n) (Some task) None) (task_of n past))
          ≡ held (tasks_in ended past) + held (cond (ended m) [] (task ∷ []))
      one same =
          ap (λ (b : Bool). (held (tasks_in also past) + held (cond (b || ended m) [] (task ∷ []))) + part (first_task (cond (m == n) (Some task) None) (task_of n past))) (eq-eqb n m (sym same))
          ∙ ap (λ (b : Bool). (held (tasks_in also past) + held []) + part (first_task (cond b (Some task) None) (task_of n past))) (eq-eqb m n same)
          ∙ here past task (held (tasks_in also past)) (held (tasks_in ended past)) 0 before (no-task past n m numbered number same)
          ∙ ap (λ (k : ℕ). held (tasks_in ended past) + held (cond (ended k) [] (task ∷ []))) (sym same)

      other : (m ≡ n → ⊥) → (held (tasks_in also past) + held (cond (also m) [] (task ∷ []))) + part (first_task (cond (m == n) (Some task) None) (task_of n past))
          ≡ held (tasks_in ended past) + held (cond (ended m) [] (task ∷ []))
      other apart =
          ap (λ (b : Bool). (held (tasks_in also past) + held (cond (b || ended m) [] (task ∷ []))) + part (first_task (cond (m == n) (Some task) None) (task_of n past)))
          (ne_eqb n m (λ q. apart (sym q)))
          ∙ ap (λ (b : Bool). (held (tasks_in also past) + held (cond (ended m) [] (task ∷ []))) + part (first_task (cond b (Some task) None) (task_of n past))) (ne_eqb m n apart)
          ∙ moved (held (tasks_in also past)) (held (cond (ended m) [] (task ∷ []))) (part (task_of n past)) (held (tasks_in ended past)) before
        where
          moved : (a b p all : ℕ) → a + p ≡ all → (a + b) + p ≡ all + b
          moved a b p all h = omega (arith, h)

  quiet : (a p all : ℕ) → a + p ≡ all → (a + held []) + p ≡ all + held []
  quiet a p all h = omega (arith, h)

  step : (past : List Entry) (book : Bool) (event : Event) → AreNumbered past → IsNumbered event past →
      held (tasks_in also past) + part (task_of n past) ≡ held (tasks_in ended past) →
      (held (tasks_in also past) + held (cond book (task_by also event) [])) + part (first_task (cond book (task_given n event) None) (task_of n past))
      ≡ held (tasks_in ended past) + held (cond book (task_by ended event) [])
  step past true (Open m task) numbered number before = opening past m task numbered number before
  step past true event numbered number before = quiet (held (tasks_in also past)) (part (task_of n past)) (held (tasks_in ended past)) before
  step past false event numbered number before = quiet (held (tasks_in also past)) (part (task_of n past)) (held (tasks_in ended past)) before

  sum-within : (past : List Entry) → AreNumbered past → held (tasks_in also past) + part (task_of n past) ≡ held (tasks_in ended past)
  sum-within [] numbered = by_end (ended n)
    where
      by_end : (b : Bool) → held [] + cond b 0 0 ≡ held []
      by_end true = refl
      by_end false = refl
  sum-within (e ∷ past) numbered =
      ap (λ (k : ℕ). k + part (task_of n (e ∷ past))) (sum_by-append (held_by s i) (tasks_in also past) (cond (e.lock == 0) (task_by also e.event) []))
      ∙ step past (e.lock == 0) e.event numbered.1 numbered.0 (sum-within past numbered.1)
      ∙ sym (sum_by-append (held_by s i) (tasks_in ended past) (cond (e.lock == 0) (task_by ended e.event) []))

-- once a command ends that isn't opened twice, what it held is held no more
pub sum-ended : (s : Setting) (i n : ℕ) (past : List Entry) → AreNumbered past →
    sum_by (held_by s i) (tasks_in (λ c. (n == c) || has_ended past c) past) + held_where s i (open_task n past) ≡ sum_by (held_by s i) (tasks_in (has_ended past) past)
sum-ended s i n past numbered =
    ap (λ (k : ℕ). sum_by (held_by s i) (tasks_in (λ c. (n == c) || has_ended past c) past) + k) (held-is (task_of n past) refl)
    ∙ sum-within s i n (has_ended past) past numbered
  where
    by_end : (opened b : Bool) (task : Option Task) → (opened ≡ false → task ≡ None) → held_where s i (cond (opened && not b) task None) ≡ cond b 0 (held_where s i task)
    by_end true true task f = refl
    by_end true false task f = refl
    by_end false true task f = refl
    by_end false false task f = sym (ap (held_where s i) (f refl))

    held-is : (o : Option Task) → task_of n past ≡ o → held_where s i (open_task n past) ≡ cond (has_ended past n) 0 (held_where s i (task_of n past))
    held-is o is = by_end (some_at 0 (opens_command n) past) (has_ended past n) (task_of n past) (unopened o is)
      where
        unopened : (x : Option Task) → task_of n past ≡ x → some_at 0 (opens_command n) past ≡ false → task_of n past ≡ None
        unopened None is' never = is'
        unopened (Some task) is' never = absurd (false≢true (sym never ∙ task-opened n past task is'))
