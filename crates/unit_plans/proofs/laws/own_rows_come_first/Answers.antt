use Rattle.unit_plans.proofs.OwnRows.{own-rows_first}
use Rattle.unit_plans.proofs.laws.own_rows_come_first.Goals as goal

pub returns : goal.returns
returns c = own-rows_first
