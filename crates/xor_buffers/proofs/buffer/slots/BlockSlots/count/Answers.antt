use Rattle.std.proofs.Common.{length}
use Rattle.xor_buffers.proofs.GatheredSlots.{length-gathered}
use Rattle.xor_buffers.proofs.buffer.slots.BlockSlots.count.Goals as goal

pub returns-clause-whole : goal.returns-clause-whole
returns-clause-whole c =
    rw (← c.self.view_is)
    (length-gathered c.self.inside.block (length c.self.inside.order.items) c.self.inside.region.items c.self.inside.order.items c.self.invariant.2 c.self.invariant.3.inside)
