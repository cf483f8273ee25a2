-- The tasks of open commands, looked at one after the other.
use Rattle.std.proofs.Common.{◌≡◌, ◌==◌, ℕ, zero, suc, ◌+◌, ◌<◌, ◌≤◌, ◌||◌, Bool, true, false, List, [], ◌∷◌, length, take, refl, sym, ap, subst, arith, ◌∙◌}
use Rattle.std.specs.List.{list_any, sum_by}
use Rattle.std.specs.Prelude.{IsTrue, slice_get}
use Rattle.std.proofs.lemmas.Bool.{eq-eqb, eqb-true}
use Rattle.std.proofs.lemmas.List.{take_all}
use Rattle.std.proofs.lemmas.List.Sums.{sum_by-append}
use Rattle.array_journal.specs.declared.entry.Entry.{Entry}
use Rattle.array_journal.specs.declared.setting.Setting.{Setting}
use Rattle.array_journal.specs.declared.task.Task.{Task}
use Rattle.array_journal.specs.Run.{NoneOpen}
use Rattle.array_book.specs.OpenCommands.{open_tasks}
use Rattle.array_book.proofs.OpenLaws.{held_by, none_open-tasks, tasks-none_open}
use Rattle.array_book.specs.OpenTasks.{passes_task, held_where}

swap-front : (a b c : Bool) → (a || (b || c)) ≡ (b || (a || c))
swap-front true true c = refl
swap-front true false c = refl
swap-front false b c = refl

any-step : (test : Task → Bool) (tasks : List Task) (k : ℕ) → k < length tasks →
    list_any test (take (suc k) tasks) ≡ (passes_task test (slice_get tasks k) || list_any test (take k tasks))
any-step test [] k lt = let no : ⊥ = omega arith in absurd no
any-step test (task ∷ tasks) zero lt = refl
any-step test (task ∷ tasks) (suc k) lt =
    ap (λ b. test task || b) (any-step test tasks k (omega arith))
    ∙ swap-front (test task) (passes_task test (slice_get tasks k)) (list_any test (take k tasks))

pub any-more : (test : Task → Bool) (tasks : List Task) (k : ℕ) → k < length tasks →
    list_any test (take (k + 1) tasks) ≡ (passes_task test (slice_get tasks k) || list_any test (take k tasks))
any-more test tasks k lt =
    let next : suc k ≡ k + 1 = omega arith in
    subst (λ (n : ℕ). list_any test (take n tasks) ≡ (passes_task test (slice_get tasks k) || list_any test (take k tasks))) next (any-step test tasks k lt)

pub any-whole : (test : Task → Bool) (tasks : List Task) (k : ℕ) → length tasks ≤ k → list_any test (take k tasks) ≡ list_any test tasks
any-whole test tasks k le = ap (λ (some : List Task). list_any test some) (take_all k tasks le)

sum-front : (f : Task → ℕ) (task : Task) (tasks : List Task) → sum_by f (task ∷ tasks) ≡ f task + sum_by f tasks
sum-front f task tasks =
    let joined : sum_by f (task ∷ tasks) ≡ sum_by f (task ∷ []) + sum_by f tasks = sum_by-append f (task ∷ []) tasks in
    let one : sum_by f (task ∷ []) ≡ 0 + f task = refl in
    omega (arith, joined, one)

held-step : (s : Setting) (i : ℕ) (tasks : List Task) (k : ℕ) → k < length tasks →
    sum_by (held_by s i) (take (suc k) tasks) ≡ sum_by (held_by s i) (take k tasks) + held_where s i (slice_get tasks k)
held-step s i [] k lt = let no : ⊥ = omega arith in absurd no
held-step s i (task ∷ tasks) zero lt = refl
held-step s i (task ∷ tasks) (suc k) lt =
    let more : sum_by (held_by s i) (take (suc k) tasks) ≡ sum_by (held_by s i) (take k tasks) + held_where s i (slice_get tasks k) = held-step s i tasks k (omega arith) in
    let shorter : sum_by (held_by s i) (take (suc k) (task ∷ tasks)) ≡ held_by s i task + sum_by (held_by s i) (take k tasks) = sum-front (held_by s i) task (take k tasks) in
    sum-front (held_by s i) task (take (suc k) tasks)
    ∙ ap (λ (n : ℕ). held_by s i task + n) more
    ∙ add-assoc (held_by s i task) (sum_by (held_by s i) (take k tasks)) (held_where s i (slice_get tasks k))
    ∙ ap (λ (n : ℕ). n + held_where s i (slice_get tasks k)) (sym shorter)
  where
    add-assoc : (a b c : ℕ) → a + (b + c) ≡ (a + b) + c
    add-assoc a b c = omega arith

pub held-more : (s : Setting) (i : ℕ) (tasks : List Task) (k : ℕ) → k < length tasks →
    sum_by (held_by s i) (take (k + 1) tasks) ≡ sum_by (held_by s i) (take k tasks) + held_where s i (slice_get tasks k)
held-more s i tasks k lt =
    let next : suc k ≡ k + 1 = omega arith in
    subst (λ (n : ℕ). sum_by (held_by s i) (take n tasks) ≡ sum_by (held_by s i) (take k tasks) + held_where s i (slice_get tasks k)) next (held-step s i tasks k lt)

pub held-whole : (s : Setting) (i : ℕ) (tasks : List Task) (k : ℕ) → length tasks ≤ k → sum_by (held_by s i) (take k tasks) ≡ sum_by (held_by s i) tasks
held-whole s i tasks k le = ap (λ (some : List Task). sum_by (held_by s i) some) (take_all k tasks le)

no-tasks : (tasks : List Task) → length tasks ≡ 0 → tasks ≡ []
no-tasks [] e = refl
no-tasks (task ∷ tasks) e = let no : ⊥ = omega arith in absurd no

-- no command is open where none of them stands
pub none-open : (past : List Entry) (count : ℕ) → count ≡ length (open_tasks past) → (IsTrue (count == 0) → NoneOpen past) × (NoneOpen past → IsTrue (count == 0))
none-open past count is = (
  λ t. none_open-tasks past (no-tasks (open_tasks past) (sym is ∙ eqb-true count 0 t)),
  λ none. eq-eqb count 0 (is ∙ ap (λ (tasks : List Task). length tasks) (tasks-none_open past none)),
)
