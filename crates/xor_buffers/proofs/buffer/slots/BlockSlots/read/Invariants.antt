use Rattle.std.proofs.Common.{◌≡◌, ◌*◌, take}
use Rattle.blocks_core.specs.Lists.{slice}
use Rattle.xor_buffers.proofs.buffer.slots.BlockSlots.read.Given as goal

abbrev pub invariant-loop-done : goal.invariant-loop-done
invariant-loop-done l =
    (l.from ≡ l.done * l.block) × (take (l.done * l.block) l.into ≡ slice l.self.bytes (l.at * l.block) (l.done * l.block))
