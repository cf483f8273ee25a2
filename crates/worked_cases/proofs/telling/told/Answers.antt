use Rattle.worked_cases.proofs.Tellings.{AreTold-push}
use Rattle.worked_cases.proofs.telling.told.Goals as goal

pub loop-run-preserved : goal.loop-run-preserved
loop-run-preserved c = AreTold-push _ _ _ _ _ c.loop-run.invariant c.in_ok-push_run.ensures
