use Rattle.std.proofs.Common.{◌≡◌, ◌≤◌, ◌-◌, ℕ, sym, ap, ◌∙◌, subst, arith}
use Rattle.xor_buffers.specs.Held.{held_blocks}
use Rattle.xor_buffers.specs.Runs.{runs_of}
use Rattle.xor_buffers.specs.Holding.{Holding, spare_of}
use Rattle.xor_buffers.proofs.HeldViews.{used_is}
use Rattle.xor_buffers.proofs.buffer.Held.spare.Goals as goal

pub returns-clause-spare : goal.returns-clause-spare
returns-clause-spare c =
    let used : held_blocks c.self.inside.slots.block (runs_of c.self.inside.slots.block c.self.inside.slots.bytes c.self.inside.runs.items) ≡ c.self.inside.used =
    used_is c.self.inside.slots.block c.self.inside.slots.count c.self.inside.capacity c.self.inside.used _ c.self.inside.slots.bytes c.self.inside.runs.items c.self.invariant.0 in
    ap (λ (n : ℕ). n - c.self.inside.used) c.count.ensures.count ∙ sym (ap (λ (n : ℕ). c.self.inside.slots.count - n) used) ∙ ap spare_of c.self.view_is

pub returns-clause-within : goal.returns-clause-within
returns-clause-within c =
    let used : held_blocks c.self.inside.slots.block (runs_of c.self.inside.slots.block c.self.inside.slots.bytes c.self.inside.runs.items) ≡ c.self.inside.used =
    used_is c.self.inside.slots.block c.self.inside.slots.count c.self.inside.capacity c.self.inside.used _ c.self.inside.slots.bytes c.self.inside.runs.items c.self.invariant.0 in
    subst (λ (h : Holding). held_blocks h.block h.list ≤ h.slots) c.self.view_is (omega (arith, used, c.self.invariant.0.within))
