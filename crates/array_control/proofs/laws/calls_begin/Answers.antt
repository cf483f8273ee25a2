use Rattle.array_control.proofs.Progress.{new-begins, illegal-ends}
use Rattle.array_control.proofs.laws.calls_begin.Goals as goal

pub returns : goal.returns
returns c = record { begins = new-begins; illegal = illegal-ends }
