use Rattle.array_control.proofs.Followed.{followed-comes}
use Rattle.array_control.proofs.array.Array.follow.Goals as goal

pub returns-clause-comes : goal.returns-clause-comes
returns-clause-comes g c =
    followed-comes _ c.args.run.now c.args.doing c.in_ok-doing.doing _ _ c.requires.run c.in_ok-doing.ensures.plan c.in_ok-doing.ensures.runs c.requires.taken
    c.in_ok-doing.ensures.went_on c.keep.new.run c.in_ok-keep.ensures
