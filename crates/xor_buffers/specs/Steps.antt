-- What a list of held blocks is while a call goes through it.
use Rattle.std.specs.Prelude.{◌==◌, ◌&&◌, ◌-◌, ◌*◌, ℕ, Bool, List, [], ◌∷◌, Option, Some, None, if◌then◌else◌}
use Rattle.blocks_core.specs.Lists.{slice}
use Rattle.xor_buffers.specs.declared.held.HeldBlocks.{HeldBlocks}
use Rattle.xor_buffers.specs.Held.{holds_rows, take_rows, with_owner}

-- held blocks without rows, unless these were taken before
abbrev pub left_of : Bool → ℕ → ℕ → ℕ → List HeldBlocks → List HeldBlocks
left_of taken block row len hs = if taken then hs else take_rows block row len hs

-- numbers with one more, unless it was put among them before
abbrev pub put_in : Bool → ℕ → List ℕ → List ℕ
put_in done c xs = if done then xs else with_owner c xs

-- the rows in held blocks, if a command holds them there
abbrev pub rows_in : ℕ → ℕ → ℕ → ℕ → HeldBlocks → Option (List ℕ)
rows_in block c row len h = if (h.owner == c) && holds_rows block row len h then Some (slice h.bytes ((row - h.row) * block) len) else None

-- the lowest of rising numbers
abbrev pub lowest_of : List ℕ → Option ℕ
lowest_of [] = None
lowest_of (x ∷ xs) = Some x
