use Rattle.unit_plans.proofs.Moved.{fetch-follows, put-follows, fold-follows}
use Rattle.unit_plans.proofs.laws.moved_blocks_may_follow.Goals as goal

pub returns : goal.returns
returns c = record { fetch = fetch-follows; put = put-follows; fold = fold-follows }
