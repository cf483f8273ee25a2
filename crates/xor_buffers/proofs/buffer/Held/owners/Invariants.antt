use Rattle.std.proofs.Common.{◌≡◌, ◌-◌, drop}
use Rattle.xor_buffers.specs.Held.{owners_of}
use Rattle.xor_buffers.proofs.buffer.Held.owners.Given as goal

abbrev pub invariant-loop-back : goal.invariant-loop-back
invariant-loop-back l = l.owners ≡ owners_of (drop (l.len - l.back) l.self.list)
