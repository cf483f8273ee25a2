use Rattle.unit_plans.proofs.Answered.{answers-follow}
use Rattle.unit_plans.proofs.Resumed.{resumes-follow}
use Rattle.unit_plans.proofs.laws.answers_may_follow.Goals as goal

pub returns : goal.returns
returns c = record { ordered = answers-follow; resumed = resumes-follow }
