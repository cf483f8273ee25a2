use Rattle.unit_plans.proofs.Gathered.{gathering-begins, gathering-goes_on, gathering-stays, gathering-ends}
use Rattle.unit_plans.proofs.laws.gatherings_have_what_was_read.Goals as goal

pub returns : goal.returns
returns c = record { begins = gathering-begins; goes_on = gathering-goes_on; stays = gathering-stays; ends = gathering-ends }
