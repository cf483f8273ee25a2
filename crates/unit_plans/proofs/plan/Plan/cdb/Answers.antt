use Rattle.unit_plans.proofs.PlanFits.{plan-fits}
use Rattle.unit_plans.proofs.plan.Plan.cdb.Goals as goal

pub unreachable-requires : goal.unreachable-requires
unreachable-requires c = c.in-None.ensures.command (plan-fits _ c.args.act c.self.invariant)
