use Rattle.std.proofs.Common.{sym, ap, ◌∙◌}
use Rattle.xor_buffers.specs.Held.{held_blocks}
use Rattle.xor_buffers.specs.Holding.{Holding}
use Rattle.xor_buffers.proofs.HeldViews.{used_is}
use Rattle.xor_buffers.proofs.buffer.Held.held.Goals as goal

pub returns : goal.returns
returns c =
    sym (used_is c.self.inside.slots.block c.self.inside.slots.count c.self.inside.capacity c.self.inside.used _ c.self.inside.slots.bytes c.self.inside.runs.items c.self.invariant.0)
    ∙ ap (λ (h : Holding). held_blocks h.block h.list) c.self.view_is
