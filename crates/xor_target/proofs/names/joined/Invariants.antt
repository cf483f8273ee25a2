-- the names so far are all of the first list and those of the other that were gone through
use Rattle.std.proofs.Common.{◌≡◌, ◌++◌, take}
use Rattle.xor_target.proofs.names.joined.Given as goal

abbrev pub invariant-loop-name : goal.invariant-loop-name
invariant-loop-name l = l.all ≡ l.names ++ take l.name-index l.more
