use Rattle.array_control.proofs.Passes.{no-steps, entries-add, others-add_none}
use Rattle.array_control.proofs.laws.steps_are_of_their_call.Goals as goal

pub returns : goal.returns
returns c = record { none = no-steps; more = entries-add; others = others-add_none }
