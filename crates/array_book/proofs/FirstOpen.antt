-- The first open command whose task passes, found by going through them one after the other.
use Rattle.std.proofs.Common.{◌≡◌, ℕ, zero, suc, ◌+◌, ◌<◌, ◌≤◌, ◌||◌, Bool, true, false, List, [], ◌∷◌, Some, None, length, drop, refl, ap, subst, arith, cond}
use Rattle.std.specs.List.{list_any}
use Rattle.std.specs.Prelude.{is_some, slice_get, option_map}
use Rattle.std.proofs.lemmas.Bool.{false≢true}
use Rattle.array_journal.specs.declared.task.Task.{Task}
use Rattle.array_book.specs.declared.commands.open_commands.OpenCommand.{OpenCommand}
use Rattle.array_book.specs.OpenTasks.{passes_task, first_of}

-- one that passes is the first of those from its place on
pub first-here : (test : Task → Bool) (cs : List OpenCommand) (ts : List Task) (k : ℕ) → length cs ≡ length ts → passes_task test (slice_get ts k) ≡ true →
    first_of test (drop k cs) (drop k ts) ≡ option_map (λ c. c.command) (slice_get cs k)
first-here test [] [] k e h = absurd (false≢true h)
first-here test [] (t ∷ ts) k e h = let no : ⊥ = omega arith in absurd no
first-here test (c ∷ cs) [] k e h = let no : ⊥ = omega arith in absurd no
first-here test (c ∷ cs) (t ∷ ts) zero e h = ap (λ b. cond b (Some c.command) (first_of test cs ts)) h
first-here test (c ∷ cs) (t ∷ ts) (suc k) e h = first-here test cs ts k (omega arith) h

-- one that doesn't is passed over
first-step : (test : Task → Bool) (cs : List OpenCommand) (ts : List Task) (k : ℕ) → length cs ≡ length ts → k < length ts → passes_task test (slice_get ts k) ≡ false →
    first_of test (drop k cs) (drop k ts) ≡ first_of test (drop (suc k) cs) (drop (suc k) ts)
first-step test cs [] k e lt h = let no : ⊥ = omega arith in absurd no
first-step test [] (t ∷ ts) k e lt h = let no : ⊥ = omega arith in absurd no
first-step test (c ∷ cs) (t ∷ ts) zero e lt h = ap (λ b. cond b (Some c.command) (first_of test cs ts)) h
first-step test (c ∷ cs) (t ∷ ts) (suc k) e lt h = first-step test cs ts k (omega arith) (omega arith) h

pub first-else : (test : Task → Bool) (cs : List OpenCommand) (ts : List Task) (k : ℕ) → length cs ≡ length ts → k < length ts → passes_task test (slice_get ts k) ≡ false →
    first_of test (drop k cs) (drop k ts) ≡ first_of test (drop (k + 1) cs) (drop (k + 1) ts)
first-else test cs ts k e lt h =
    let next : suc k ≡ k + 1 = omega arith in
    subst (λ (n : ℕ). first_of test (drop k cs) (drop k ts) ≡ first_of test (drop n cs) (drop n ts)) next (first-step test cs ts k e lt h)

-- there is none behind the last
pub first-none : (test : Task → Bool) (cs : List OpenCommand) (ts : List Task) (k : ℕ) → length cs ≡ length ts → length ts ≤ k →
    first_of test (drop k cs) (drop k ts) ≡ None
first-none test [] [] zero e le = refl
first-none test [] [] (suc k) e le = refl
first-none test [] (t ∷ ts) k e le = let no : ⊥ = omega arith in absurd no
first-none test (c ∷ cs) [] k e le = let no : ⊥ = omega arith in absurd no
first-none test (c ∷ cs) (t ∷ ts) zero e le = let no : ⊥ = omega arith in absurd no
first-none test (c ∷ cs) (t ∷ ts) (suc k) e le = first-none test cs ts k (omega arith) (omega arith)

-- there is one where some task passes
pub first-some : (test : Task → Bool) (cs : List OpenCommand) (ts : List Task) → length cs ≡ length ts → is_some (first_of test cs ts) ≡ list_any test ts
first-some test [] [] e = refl
first-some test [] (t ∷ ts) e = let no : ⊥ = omega arith in absurd no
first-some test (c ∷ cs) [] e = let no : ⊥ = omega arith in absurd no
first-some test (c ∷ cs) (t ∷ ts) e = by_test (test t) (first-some test cs ts (omega arith))
  where
    by_test : (b : Bool) → is_some (first_of test cs ts) ≡ list_any test ts → is_some (cond b (Some c.command) (first_of test cs ts)) ≡ (b || list_any test ts)
    by_test true h = refl
    by_test false h = h
