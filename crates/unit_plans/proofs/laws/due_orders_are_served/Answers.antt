use Rattle.unit_plans.proofs.Served.{orders-served}
use Rattle.unit_plans.proofs.laws.due_orders_are_served.Goals as goal

pub returns : goal.returns
returns c = orders-served
