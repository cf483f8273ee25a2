use Rattle.std.proofs.Common.{◌≡◌, ◌++◌, ◌-◌, take}
use Rattle.xor_buffers.specs.Slots.{numbers_from}
use Rattle.xor_buffers.proofs.buffer.slots.number_from.Given as goal

abbrev pub invariant-loop-slot : goal.invariant-loop-slot
invariant-loop-slot l = take l.slot l.order ≡ take l.first l.initial.order ++ numbers_from l.first (l.slot - l.first)
