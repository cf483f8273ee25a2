use Rattle.unit_plans.proofs.Befallen.{shut-follows, loss-follows, reset-follows, drop-follows, fresh-follows, failure-follows}
use Rattle.unit_plans.proofs.laws.befallings_may_follow.Goals as goal

pub returns : goal.returns
returns c = record {
  shut = shut-follows;
  lost = loss-follows;
  reset = reset-follows;
  dropping = drop-follows;
  fresh = fresh-follows;
  failed = failure-follows;
}
