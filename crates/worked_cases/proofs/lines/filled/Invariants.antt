use Rattle.std.proofs.Common.{◌≡◌, ◌++◌, length}
use Rattle.worked_cases.specs.Lines.{filled}
use Rattle.worked_cases.proofs.lines.filled.Given as goal

abbrev pub invariant-loop-rest : goal.invariant-loop-rest
invariant-loop-rest l = l.made ++ filled l.value l.rest ≡ filled l.value l.text

abbrev pub decreases-loop-rest : goal.decreases-loop-rest
decreases-loop-rest l = length l.rest
