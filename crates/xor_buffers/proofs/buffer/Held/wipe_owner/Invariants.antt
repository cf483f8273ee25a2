use Rattle.std.proofs.Common.{◌≡◌, ◌==◌, ◌-◌, not, take}
use Rattle.xor_buffers.specs.Held.{held_blocks}
use Rattle.xor_buffers.proofs.Wiping.{kept_from}
use Rattle.xor_buffers.proofs.buffer.Held.wipe_owner.Given as goal

abbrev pub invariant-loop-done : goal.invariant-loop-done
invariant-loop-done l =
    (l.self ≡ record l.initial.self { list = kept_from (λ h. not (h.owner == l.owner)) (l.len - l.done) l.initial.self.list })
    × (l.at ≡ held_blocks l.initial.self.block (take (l.len - l.done) l.initial.self.list))
