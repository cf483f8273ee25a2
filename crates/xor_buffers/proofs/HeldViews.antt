-- A buffer's numbers, from its table.
use Rattle.std.proofs.Common.{◌≡◌, ℕ, ◌+◌, ◌*◌, ◌^◌, ◌<◌, ◌≤◌, List, length, take, ap, sym, ◌∙◌, arith}
use Rattle.std.proofs.lemmas.Nat.{mul-le}
use Rattle.std.proofs.lemmas.List.{take-take}
use Rattle.xor_buffers.specs.declared.held.HeldBlocks.{HeldBlocks}
use Rattle.xor_buffers.specs.declared.buffer.table.Run.{Run}
use Rattle.xor_buffers.specs.Held.{held_blocks}
use Rattle.xor_buffers.specs.Runs.{runs_of, blocks_in, IsTable}
use Rattle.xor_buffers.specs.Holding.{Holding}
use Rattle.xor_buffers.proofs.RunLaws.{held_blocks-runs, runs_of-same}

-- the blocks of the runs are within the slots
pub bytes_inside : (b slots capacity used places : ℕ) (v : List ℕ) (runs : List Run) → IsTable b slots v capacity used places runs → blocks_in runs * b ≤ length v
bytes_inside b slots capacity used places v runs t =
    omega (arith, t.whole, mul-le (blocks_in runs) b slots b (omega (arith, t.counted, t.within)) (omega arith))

pub used_is : (b slots capacity used places : ℕ) (v : List ℕ) (runs : List Run) → IsTable b slots v capacity used places runs → held_blocks b (runs_of b v runs) ≡ used
used_is b slots capacity used places v runs t =
    held_blocks-runs b v runs t.some_block (bytes_inside b slots capacity used places v runs t) ∙ sym t.counted

-- more slots, and room for as many runs
pub table-grown : (b slots capacity used places more later : ℕ) (v w : List ℕ) (runs : List Run) → IsTable b slots v capacity used places runs →
    length w ≡ (slots + more) * b → slots + more ≤ later → slots + more < 2 ^ 32 → IsTable b (slots + more) w capacity used later runs
table-grown b slots capacity used places more later v w runs t len room few = record {
  some_block = t.some_block;
  whole = len;
  counted = t.counted;
  within = omega (arith, t.within);
  room = t.room;
  sound = t.sound;
  apart = t.apart;
  table = room;
  few = few;
}

pub list-grown : (b slots capacity used places : ℕ) (v w : List ℕ) (runs : List Run) → IsTable b slots v capacity used places runs → take (slots * b) w ≡ v →
    runs_of b w runs ≡ runs_of b v runs
list-grown b slots capacity used places v w runs t same =
    runs_of-same b w v runs
    (sym (take-take (blocks_in runs * b) (slots * b) w (mul-le (blocks_in runs) b slots b (omega (arith, t.counted, t.within)) (omega arith))) ∙ ap (take (blocks_in runs * b)) same)

abbrev pub holding : ℕ → ℕ → ℕ → List HeldBlocks → Holding
holding block capacity slots list = record { block = block; capacity = capacity; slots = slots; list = list }
