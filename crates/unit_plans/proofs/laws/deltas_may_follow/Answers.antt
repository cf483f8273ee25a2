use Rattle.unit_plans.proofs.Deltas.{diff-follows, take-follows, hold-follows}
use Rattle.unit_plans.proofs.laws.deltas_may_follow.Goals as goal

pub returns : goal.returns
returns c = record { diff = diff-follows; take = take-follows; hold = hold-follows }
