use Rattle.array_control.proofs.Progress.{spoilt-ends, refused-ends, last-ends}
use Rattle.array_control.proofs.laws.calls_end.Goals as goal

pub returns : goal.returns
returns c = record { spoilt = spoilt-ends; refused = refused-ends; done = last-ends }
