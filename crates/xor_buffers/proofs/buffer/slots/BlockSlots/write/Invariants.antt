use Rattle.std.proofs.Common.{◌≡◌, ◌*◌, take}
use Rattle.blocks_core.specs.Lists.{put}
use Rattle.xor_buffers.proofs.buffer.slots.BlockSlots.write.Given as goal

abbrev pub invariant-loop-done : goal.invariant-loop-done
invariant-loop-done l =
    (l.from ≡ l.done * l.block) × (l.self ≡ record l.initial.self { bytes = put l.initial.self.bytes (l.at * l.block) (take (l.done * l.block) l.bytes) })
