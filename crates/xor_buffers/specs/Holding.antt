-- What a target's own buffer is seen as.
use Rattle.std.specs.Prelude.{ℕ, ◌-◌, List, Option, Some, None, nat_lt, if◌then◌else◌}
use Rattle.xor_buffers.specs.declared.held.HeldBlocks.{HeldBlocks}
use Rattle.xor_buffers.specs.Held.{held_blocks, overlap_of}
use Rattle.xor_buffers.specs.declared.fault.HoldFault.{HoldFault}
use Rattle.xor_buffers.specs.declared.fault.HoldFault.TheVariants.{Overlap, Full}

-- A buffer: the bytes of a block, how many blocks it may hold, how many slots there are for blocks, and what it holds,
-- the oldest first.
pub record Holding : Type 0 where
  pub block : ℕ
  pub capacity : ℕ
  pub slots : ℕ
  pub list : List HeldBlocks

-- how many more blocks it may hold
abbrev pub room_of : Holding → ℕ
room_of h = h.capacity - held_blocks h.block h.list

-- how many more blocks it has slots for, so that holding them takes no memory
abbrev pub spare_of : Holding → ℕ
spare_of h = h.slots - held_blocks h.block h.list

-- Why a buffer can't hold so many blocks from a row on: a row of them is held, of which the first owner is told, or else
-- there is less room.
abbrev pub fault_by : Option ℕ → ℕ → ℕ → Option HoldFault
fault_by (Some owner) room count = Some (Overlap owner)
fault_by None room count = if nat_lt room count then Some (Full room) else None

abbrev pub hold_fault : Holding → ℕ → ℕ → Option HoldFault
hold_fault h row count = fault_by (overlap_of h.block row count h.list) (room_of h) count
