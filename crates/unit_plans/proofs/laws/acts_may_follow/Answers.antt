use Rattle.unit_plans.proofs.ActsFollow.{acts-follow}
use Rattle.unit_plans.proofs.Shapes.{acts-keep_shapes}
use Rattle.unit_plans.proofs.laws.acts_may_follow.Goals as goal

pub returns : goal.returns
returns c = record { follow = acts-follow; shapes = acts-keep_shapes }
