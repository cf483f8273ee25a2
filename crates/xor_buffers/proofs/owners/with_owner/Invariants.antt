use Rattle.std.proofs.Common.{◌≡◌, ◌++◌, drop}
use Rattle.xor_buffers.specs.Held.{with_owner}
use Rattle.xor_buffers.specs.Steps.{put_in}
use Rattle.xor_buffers.proofs.owners.with_owner.Given as goal

abbrev pub invariant-loop-number : goal.invariant-loop-number
invariant-loop-number l =
    l.left ++ put_in l.done l.owner (drop l.number-index l.number-items) ≡ with_owner l.owner l.owners
