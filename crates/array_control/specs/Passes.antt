-- How far a call of the operator has come in a list of entries, the newest first: one that goes over all stripes, a piece a
-- stripe, whatever becomes of each; and one that has but an entry or two.
use Rattle.std.specs.Prelude.{◌≡◌, ◌<◌, ◌≤◌, ◌++◌, ℕ, true, false, List, ◌∷◌, Some, if◌then◌else◌}
use Rattle.array_journal.specs.declared.entry.Entry.{Entry}
use Rattle.array_journal.specs.declared.event.Why.{Why}
use Rattle.array_journal.specs.declared.task.Task.{Task}
use Rattle.array_journal.specs.Commands.{task_of}
use Rattle.stripe_check.specs.declared.command_summary.Tally.{Tally}
use Rattle.stripe_check.specs.Asked.{goes_through}
use Rattle.stripe_check.specs.Steps.{Step, Begins, steps_of}
use Rattle.stripe_check.specs.Tallies.{is_left, more_left, tally_of}

-- The pieces before this one are behind it: whatever steps the call may make yet, they are judged from this piece on. So many of
-- its pieces were done, and so many left as they are.
pub record HasPassed (n count piece : ℕ) (tally : Tally) (past : List Entry) : Type 0 where
  pub in_count : piece ≤ count
  pub steps : (rest : List Step) → goes_through false count 0 0 (steps_of n past ++ rest) ≡ goes_through false count piece 0 rest
  pub counted : tally_of n past ≡ tally

-- Beyond that, a command with this task is open for the piece.
pub record IsPassing (n count piece : ℕ) (tally : Tally) (c : ℕ) (task : Task) (past : List Entry) : Type 0 where
  pub in_count : piece < count
  pub its_task : task_of c past ≡ Some task
  pub of_call : task.call ≡ n
  pub steps : (rest : List Step) → goes_through false count 0 0 (steps_of n past ++ rest) ≡ goes_through false count piece 0 (Begins piece c ∷ rest)
  pub counted : tally_of n past ≡ tally

-- The call has gone over all its pieces.
pub record IsOver (n count : ℕ) (tally : Tally) (past : List Entry) : Type 0 where
  pub steps : goes_through false count 0 0 (steps_of n past) ≡ true
  pub counted : tally_of n past ≡ tally

-- a piece that is refused may count among those that are left
abbrev pub tally_refused : Why → Tally → Tally
tally_refused why tally = if is_left why then more_left tally else tally
