use Rattle.std.proofs.Common.{[]}
use Rattle.worked_cases.specs.Runs.{AreTold}
use Rattle.worked_cases.proofs.telling.told.Given as goal

abbrev pub invariant-loop-run : goal.invariant-loop-run
invariant-loop-run l = AreTold l.yielded [] l.text
