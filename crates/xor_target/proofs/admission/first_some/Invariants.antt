-- the rows before this one don't answer
use Rattle.std.proofs.Common.{◌≡◌, drop}
use Rattle.xor_target.specs.Admission.{first_some}
use Rattle.xor_target.proofs.admission.first_some.Given as goal

abbrev pub invariant-loop-row : goal.invariant-loop-row
invariant-loop-row l = first_some l.rows ≡ first_some (drop l.row-index l.rows)
