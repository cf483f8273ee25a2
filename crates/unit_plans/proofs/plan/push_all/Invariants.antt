-- the names so far are those that were there and those that were gone through
use Rattle.std.proofs.Common.{◌≡◌, ◌++◌, take}
use Rattle.unit_plans.proofs.plan.push_all.Given as goal

abbrev pub invariant-loop-name : goal.invariant-loop-name
invariant-loop-name l = l.names ≡ l.fn.names ++ take l.name-index l.more
