use Rattle.std.proofs.Common.{◌≡◌, ◌++◌}
use Rattle.std.specs.Vec.Iter.{into_iter_items}
use Rattle.xor_buffers.proofs.owners.OwnerSet.rising.Given as goal

abbrev pub invariant-loop-owner : goal.invariant-loop-owner
invariant-loop-owner l = l.owners ++ into_iter_items l.owner-iterator ≡ into_iter_items l.initial.owner-iterator
