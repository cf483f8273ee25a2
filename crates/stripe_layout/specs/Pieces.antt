-- How a run of blocks is cut into pieces: from its first block, each piece ends at the end of its unit or after so
-- many blocks as a command may have.
use Rattle.std.specs.Prelude.{ℕ, zero, suc, ◌+◌, ◌-◌, min, List, [], ◌∷◌}
use Rattle.stripe_layout.specs.declared.geometry.Geometry.{Geometry}
use Rattle.stripe_layout.specs.declared.pieces.Piece.{Piece}
use Rattle.stripe_layout.specs.Layout.{place_of, room_in_unit}

-- so many blocks from this one on, which stands in this place
abbrev pub piece_of : Geometry → ℕ → ℕ → Piece
piece_of g lba count = record { place = place_of g lba; first = lba; count = count }

-- how many blocks the first piece has, of so many from this one on
abbrev pub first_count : Geometry → ℕ → ℕ → ℕ → ℕ
first_count g max lba count = min (room_in_unit g lba) (min max count)

-- the pieces, at most so many of them, of so many blocks from this one on
abbrev pub cut : Geometry → ℕ → ℕ → ℕ → ℕ → List Piece
cut g max zero lba count = []
cut g max (suc left) lba zero = []
cut g max (suc left) lba (suc others) =
    let first = first_count g max lba (suc others) in
    piece_of g lba first ∷ cut g max left (lba + first) (suc others - first)

-- the pieces of so many blocks from this one on: no more than there are blocks
abbrev pub pieces_of : Geometry → ℕ → ℕ → ℕ → List Piece
pieces_of g max lba count = cut g max count lba count
