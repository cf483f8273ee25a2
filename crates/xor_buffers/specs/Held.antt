-- What a buffer holds: blocks of exclusive-or, the oldest first.
use Rattle.std.specs.Prelude.{◌≡◌, ◌⊎◌, ◌==◌, ◌&&◌, ◌||◌, nat_lt, nat_le, ℕ, ◌+◌, ◌-◌, ◌*◌, ◌/◌, Bool, false, List, [], ◌∷◌, ◌++◌, length, take, drop, Option, Some, None, if◌then◌else◌}
use Rattle.blocks_core.specs.Lists.{slice}
use Rattle.xor_buffers.specs.declared.held.HeldBlocks.{HeldBlocks}

-- the held blocks contain so many bytes from a row on
abbrev pub holds_rows : ℕ → ℕ → ℕ → HeldBlocks → Bool
holds_rows block row len h = nat_le h.row row && nat_le ((row - h.row) * block + len) (length h.bytes)

-- what is left of held blocks once so many bytes from a row on are taken out: a front, a back, or both
abbrev pub rest_of : ℕ → ℕ → ℕ → HeldBlocks → List HeldBlocks
rest_of block row len h =
    (if row == h.row then [] else record { owner = h.owner; row = h.row; bytes = take ((row - h.row) * block) h.bytes } ∷ [])
    ++ (if (row - h.row) * block + len == length h.bytes then []
    else record { owner = h.owner; row = row + len / block; bytes = drop ((row - h.row) * block + len) h.bytes } ∷ [])

-- the held blocks without these rows, taken from the first that contain them
abbrev pub take_rows : ℕ → ℕ → ℕ → List HeldBlocks → List HeldBlocks
take_rows block row len [] = []
take_rows block row len (h ∷ hs) = if holds_rows block row len h then rest_of block row len h ++ hs else h ∷ take_rows block row len hs

-- the owner of the first held blocks that contain rows
abbrev pub holder_of : ℕ → ℕ → ℕ → List HeldBlocks → Option ℕ
holder_of block row len [] = None
holder_of block row len (h ∷ hs) = if holds_rows block row len h then Some h.owner else holder_of block row len hs

-- the owner of the first held blocks that have one of so many rows from a row on
abbrev pub overlap_of : ℕ → ℕ → ℕ → List HeldBlocks → Option ℕ
overlap_of block row count [] = None
overlap_of block row count (h ∷ hs) =
    if nat_lt h.row (row + count) && nat_lt row (h.row + length h.bytes / block) then Some h.owner else overlap_of block row count hs

-- the rows as command c holds them, if it holds them in one piece
abbrev pub rows_held : ℕ → ℕ → ℕ → ℕ → List HeldBlocks → Option (List ℕ)
rows_held block c row len [] = None
rows_held block c row len (h ∷ hs) =
    if (h.owner == c) && holds_rows block row len h
    then Some (slice h.bytes ((row - h.row) * block) len)
    else rows_held block c row len hs

-- a number put into a rising list, once
abbrev pub with_owner : ℕ → List ℕ → List ℕ
with_owner c [] = c ∷ []
with_owner c (x ∷ xs) = if nat_lt c x then c ∷ x ∷ xs else if c == x then x ∷ xs else x ∷ with_owner c xs

-- the owners of held blocks, rising, each once
abbrev pub owners_of : List HeldBlocks → List ℕ
owners_of [] = []
owners_of (h ∷ hs) = with_owner h.owner (owners_of hs)

-- some held blocks are a command's
abbrev pub has_owner : ℕ → List HeldBlocks → Bool
has_owner c [] = false
has_owner c (h ∷ hs) = (h.owner == c) || has_owner c hs

-- these blocks are among some held ones
abbrev pub AreAmong : HeldBlocks → List HeldBlocks → Type 0
AreAmong h [] = ⊥
AreAmong h (x ∷ hs) = (x ≡ h) ⊎ AreAmong h hs

-- how many blocks are held
abbrev pub held_blocks : ℕ → List HeldBlocks → ℕ
held_blocks block [] = 0
held_blocks block (h ∷ hs) = length h.bytes / block + held_blocks block hs
