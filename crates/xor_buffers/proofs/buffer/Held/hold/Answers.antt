use Rattle.std.proofs.Common.{◌≡◌, ◌/◌, ℕ, ap, ◌∙◌, length, arith}
use Rattle.xor_buffers.specs.Holding.{Holding}
use Rattle.xor_buffers.proofs.buffer.Held.hold.Goals as goal

pub overflow_cast-count-2 : goal.overflow_cast-count-2
overflow_cast-count-2 c =
    let block : c.block.result ≡ c.args.self.now.block = c.block.ensures.block ∙ ap (λ (h : Holding). h.block) c.self.view_is in
    let slots : c.self.inside.slots.count ≡ c.args.self.now.slots = ap (λ (h : Holding). h.slots) c.self.view_is in
    let count : length c.args.bytes.now / c.block.result ≡ length c.args.bytes.now / c.args.self.now.block = ap (λ (n : ℕ). length c.args.bytes.now / n) block in
    omega (arith, count, slots, c.requires.spare, c.self.invariant.0.few)
