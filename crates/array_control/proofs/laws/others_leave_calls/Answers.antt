use Rattle.array_control.proofs.Progress.{others-leave}
use Rattle.array_control.proofs.laws.others_leave_calls.Goals as goal

pub returns : goal.returns
returns c = others-leave
