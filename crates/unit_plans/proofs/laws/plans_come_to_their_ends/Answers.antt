use Rattle.unit_plans.proofs.PlansBegin.{plans-begin}
use Rattle.unit_plans.proofs.Asked.{plans-ask}
use Rattle.unit_plans.proofs.Served.{orders-served}
use Rattle.unit_plans.proofs.Told.{told-acts}
use Rattle.unit_plans.proofs.ToldCloses.{told-closes}
use Rattle.unit_plans.proofs.Left.{plans-left}
use Rattle.unit_plans.proofs.GoesOn.{plans-answered, plans-go_on}
use Rattle.unit_plans.proofs.laws.plans_come_to_their_ends.Goals as goal

pub returns : goal.returns
returns c = record { asks = plans-ask; told_acts = told-acts orders-served; told_closes = told-closes; begins = plans-begin; answered = plans-answered; goes_on = plans-go_on; left = plans-left }
