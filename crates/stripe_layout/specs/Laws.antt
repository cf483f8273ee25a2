-- What holds of every array in its ranges: its rows are those of its stripes, blocks and places undo each other, and
-- the pieces of a run of blocks are that run.
use Rattle.std.specs.Prelude.{◌≡◌, ◌≢◌, ◌<◌, ◌≤◌, ◌+◌, ◌-◌, ◌⊎◌, ℕ, List, flat_map}
use Rattle.std.specs.List.{AllByRecursion, range_with_len}
use Rattle.stripe_layout.specs.declared.geometry.Geometry.{Geometry}
use Rattle.stripe_layout.specs.declared.pieces.Piece.{Piece}
use Rattle.stripe_layout.specs.Layout.{IsArray, IsRowOf, rows_of, stripe_of_row, capacity_of, stripe_of, unit_of, row_of, lba_at, place_of, room_in_unit, parity_of, target_of_unit}
use Rattle.stripe_layout.specs.Pieces.{pieces_of}

-- ---- rows

-- each row of a target is in the stripe that is told of it
abbrev pub RowHasStripeLaw : Type 0
RowHasStripeLaw = (g : Geometry) (row : ℕ) → IsArray g → row < rows_of g → IsRowOf g (stripe_of_row g row) row

-- and in no other
abbrev pub OneStripeLaw : Type 0
OneStripeLaw = (g : Geometry) (a b row : ℕ) → IsRowOf g a row → IsRowOf g b row → a ≡ b

-- the rows of a stripe are rows of the target
abbrev pub RowsBelowLaw : Type 0
RowsBelowLaw = (g : Geometry) (stripe row : ℕ) → IsRowOf g stripe row → row < rows_of g

-- ---- blocks

-- the block that stands where a block stands is that block
abbrev pub BlockOfPlaceLaw : Type 0
BlockOfPlaceLaw = (g : Geometry) (lba : ℕ) → IsArray g → lba < capacity_of g →
    IsRowOf g (stripe_of g lba) (row_of g lba) × (unit_of g lba < g.targets - 1) × (lba_at g (stripe_of g lba) (unit_of g lba) (row_of g lba) ≡ lba)

-- a row of a data unit is where its block stands
pub record StandsAt (g : Geometry) (lba stripe unit row : ℕ) : Type 0 where
  pub below : lba < capacity_of g
  pub stripe_is : stripe_of g lba ≡ stripe
  pub unit_is : unit_of g lba ≡ unit
  pub row_is : row_of g lba ≡ row

abbrev pub PlaceOfBlockLaw : Type 0
PlaceOfBlockLaw = (g : Geometry) (stripe unit row : ℕ) → IsArray g → unit < g.targets - 1 → IsRowOf g stripe row →
    StandsAt g (lba_at g stripe unit row) stripe unit row

-- no data unit is on the parity target of its stripe
abbrev pub BesideParityLaw : Type 0
BesideParityLaw = (g : Geometry) (stripe unit : ℕ) → target_of_unit g stripe unit ≢ parity_of g stripe

-- ---- pieces

abbrev pub blocks_of_piece : Piece → List ℕ
blocks_of_piece piece = range_with_len piece.first piece.count

-- the pieces of a run of blocks, joined, are the run
abbrev pub PiecesJoinedLaw : Type 0
PiecesJoinedLaw = (g : Geometry) (max lba count : ℕ) → IsArray g → 1 ≤ max → lba + count ≤ capacity_of g →
    flat_map blocks_of_piece (pieces_of g max lba count) ≡ range_with_len lba count

-- the blocks of a piece stand on rows one after another, of one unit
abbrev pub IsInOneUnit : Geometry → Piece → Type 0
IsInOneUnit g piece = (j : ℕ) → j < piece.count →
    place_of g (piece.first + j) ≡ record { stripe = piece.place.stripe; target = piece.place.target; parity = piece.place.parity; row = piece.place.row + j }

abbrev pub PiecesInUnitsLaw : Type 0
PiecesInUnitsLaw = (g : Geometry) (max lba count : ℕ) → IsArray g → 1 ≤ max → lba + count ≤ capacity_of g →
    AllByRecursion (λ (piece : Piece). (1 ≤ piece.count) × IsInOneUnit g piece) (pieces_of g max lba count)

-- a piece ends at the end of its unit, after the most blocks of a piece, or where the run ends, and goes past none of these
pub record IsLongest (g : Geometry) (max end : ℕ) (piece : Piece) : Type 0 where
  pub within_unit : piece.count ≤ room_in_unit g piece.first
  pub within_max : piece.count ≤ max
  pub within_run : piece.first + piece.count ≤ end
  pub longest : (piece.count ≡ room_in_unit g piece.first) ⊎ ((piece.count ≡ max) ⊎ (piece.first + piece.count ≡ end))

abbrev pub PiecesLongestLaw : Type 0
PiecesLongestLaw = (g : Geometry) (max lba count : ℕ) → IsArray g → 1 ≤ max → lba + count ≤ capacity_of g →
    AllByRecursion (IsLongest g max (lba + count)) (pieces_of g max lba count)
