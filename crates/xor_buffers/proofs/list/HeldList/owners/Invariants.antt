use Rattle.std.proofs.Common.{◌≡◌, ◌-◌, drop}
use Rattle.xor_buffers.specs.Held.{owners_of}
use Rattle.xor_buffers.proofs.list.HeldList.owners.Given as goal

abbrev pub invariant-loop-done : goal.invariant-loop-done
invariant-loop-done l = l.owners ≡ owners_of (drop (l.len - l.done) l.self)
