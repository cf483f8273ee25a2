-- the greatest so far, with those that are left, is that of all
use Rattle.std.proofs.Common.{◌≡◌, drop}
use Rattle.xor_target.specs.Rigs.{greatest_stamp}
use Rattle.xor_target.proofs.rig.greatest_stamp.Given as goal

abbrev pub invariant-loop-name : goal.invariant-loop-name
invariant-loop-name l = greatest_stamp l.greatest (drop l.name-index l.names) ≡ greatest_stamp l.seen l.names
