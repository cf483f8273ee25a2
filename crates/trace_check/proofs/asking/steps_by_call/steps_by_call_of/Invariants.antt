use Rattle.std.proofs.Common.{◌≡◌, ◌≤◌, ℕ, take, reverse, map, length}
use Rattle.trace_check.specs.EntrySteps.{step_of, steps_in}
use Rattle.trace_check.specs.StepsByCall.{steps_kept}
use Rattle.trace_check.proofs.asking.steps_by_call.steps_by_call_of.Given as goal

abbrev pub invariant-loop-entry_step : goal.invariant-loop-entry_step
invariant-loop-entry_step l = record {
  steps : (n : ℕ) → map step_of (steps_kept l.all n) ≡ steps_in n (reverse (take l.entry_step-index l.entry_steps));
  few : (n : ℕ) → length (steps_kept l.all n) ≤ l.entry_step-index;
}
