-- The table of a buffer: runs of blocks, one behind the other in the order of the slots.
use Rattle.std.specs.Prelude.{◌≡◌, ◌==◌, ◌&&◌, ◌≤◌, ◌<◌, ◌^◌, nat_lt, nat_le, ℕ, ◌+◌, ◌-◌, ◌*◌, Bool, true, List, [], ◌∷◌, ◌++◌, length, take, drop, slice_index_or, Option, Some, None, if◌then◌else◌}
use Rattle.std.specs.List.{AllByRecursion}
use Rattle.xor_buffers.specs.declared.held.HeldBlocks.{HeldBlocks}
use Rattle.xor_buffers.specs.declared.buffer.table.Run.{Run}

-- what runs hold: the first has the first blocks of these bytes, the next those behind, and so on
abbrev pub runs_of : ℕ → List ℕ → List Run → List HeldBlocks
runs_of block bytes [] = []
runs_of block bytes (e ∷ es) =
    record { owner = e.owner; row = e.row; bytes = take (e.count * block) bytes } ∷ runs_of block (drop (e.count * block) bytes) es

-- how many blocks they are
abbrev pub blocks_in : List Run → ℕ
blocks_in [] = 0
blocks_in (e ∷ es) = e.count + blocks_in es

-- a run contains so many rows from one on
abbrev pub run_holds : ℕ → ℕ → Run → Bool
run_holds row count e = nat_le e.row row && nat_le (row + count) (e.row + e.count)

-- a run has some of so many rows from one on
abbrev pub run_overlaps : ℕ → ℕ → Run → Bool
run_overlaps row count e = nat_lt e.row (row + count) && nat_lt row (e.row + e.count)

-- the owner of the first run that has some of them
abbrev pub run_overlap : ℕ → ℕ → List Run → Option ℕ
run_overlap row count [] = None
run_overlap row count (e ∷ es) = if run_overlaps row count e then Some e.owner else run_overlap row count es

-- in how many runs a row is
abbrev pub times_held : ℕ → List Run → ℕ
times_held row [] = 0
times_held row (e ∷ es) = (if run_holds row 1 e then 1 else 0) + times_held row es

-- what is left of a run once so many blocks are let go, behind so many first ones
abbrev pub run_rest : ℕ → ℕ → Run → List Run
run_rest start count e =
    (if start == 0 then [] else record { owner = e.owner; row = e.row; count = start } ∷ [])
    ++ (if start + count == e.count then [] else record { owner = e.owner; row = e.row + (start + count); count = e.count - (start + count) } ∷ [])

-- a run has a block at least, and its rows have numbers of 32 bits
pub record IsRun (e : Run) : Type 0 where
  pub filled : 1 ≤ e.count
  pub fits : e.row + e.count ≤ 2 ^ 32

-- a run that contains rows stands at a place of a table, behind so many blocks
pub record IsPlace (row count : ℕ) (runs : List Run) (index at : ℕ) : Type 0 where
  pub inside : index < length runs
  pub behind : at ≡ blocks_in (take index runs)
  pub contains : (d : Run) → run_holds row count (slice_index_or runs index d) ≡ true

-- A table of so many slots, of which so many are used: each run stands for itself, no row is in two of them, and there
-- is room for as many runs as there are slots.
pub record IsTable (block slots : ℕ) (bytes : List ℕ) (capacity used places : ℕ) (runs : List Run) : Type 0 where
  pub some_block : 1 ≤ block
  pub whole : length bytes ≡ slots * block
  pub counted : used ≡ blocks_in runs
  pub within : used ≤ slots
  pub room : used ≤ capacity
  pub sound : AllByRecursion IsRun runs
  pub apart : (row : ℕ) → times_held row runs ≤ 1
  pub table : slots ≤ places
  pub few : slots < 2 ^ 32

-- no run has a row before one, nor from another on
abbrev pub AreBetween : ℕ → ℕ → List Run → Type 0
AreBetween first end runs = AllByRecursion (λ e. (first ≤ e.row) × (e.row + e.count ≤ end)) runs
