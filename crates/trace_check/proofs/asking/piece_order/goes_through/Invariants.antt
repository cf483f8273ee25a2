use Rattle.std.proofs.Common.{◌≡◌, ◌≤◌, drop, map}
use Rattle.stripe_check.specs.Asked.{goes_through}
use Rattle.trace_check.specs.EntrySteps.{step_of}
use Rattle.trace_check.specs.PieceOrder.{after_progress, idle_of}
use Rattle.trace_check.proofs.asking.piece_order.goes_through.Given as goal

abbrev pub invariant-loop-step : goal.invariant-loop-step
invariant-loop-step l = record {
  rest : after_progress l.pieces.fatal l.pieces.count l.progress (map step_of (drop l.step-index l.steps)) ≡ goes_through l.pieces.fatal l.pieces.count 0 0 (map step_of l.steps);
  few : idle_of l.progress ≤ l.step-index;
}
