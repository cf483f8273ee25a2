-- The pieces of a call are pieces that the book may be asked about, and lie within the call.
use Rattle.std.specs.Prelude.{◌≡◌, ◌+◌, ◌-◌, ◌*◌, ◌≤◌, ℕ, zero, suc, List, [], ◌∷◌, Some, length, slice_get}
use Rattle.std.specs.List.{AllByRecursion}
use Rattle.std.proofs.Common.{refl, subst, arith}
use Rattle.std.proofs.Math.Nat.{add-mul}
use Rattle.std.proofs.lemmas.Nat.{mul-le}
use Rattle.std.proofs.lemmas.Option.{none-some, same_Some}
use Rattle.blocks_core.specs.Lists.{slice}
use Rattle.blocks_core.proofs.BlockLists.{length-slice}
use Rattle.stripe_layout.specs.declared.pieces.Piece.{Piece}
use Rattle.stripe_layout.specs.Layout.{capacity_of}
use Rattle.stripe_layout.specs.Pieces.{pieces_of}
use Rattle.stripe_layout.proofs.PieceLaws.{some-first, each-piece}
use Rattle.array_journal.specs.declared.setting.Setting.{Setting}
use Rattle.array_journal.specs.Run.{IsSetting}
use Rattle.array_book.specs.Asks.{IsPiece}
use Rattle.host_requests.proofs.AimPieces.{piece-from}

-- a piece of blocks that end there, of at most so many blocks
record IsCutOut (s : Setting) (max end : ℕ) (piece : Piece) : Type 0 where
  is_piece : IsPiece s piece
  last : piece.first + piece.count ≤ end
  most : piece.count ≤ max

-- what holds of all holds of the one of a number
at-number : (P : Piece → Type 0) (pieces : List Piece) (n : ℕ) (piece : Piece) → AllByRecursion P pieces → slice_get pieces n ≡ Some piece → P piece
at-number P [] n piece all e = absurd (none-some piece e)
at-number P (first ∷ pieces) zero piece all e = subst P (same_Some first piece e) all.0
at-number P (first ∷ pieces) (suc n) piece all e = at-number P pieces n piece all.1 e

all-cut : (s : Setting) (max lba count : ℕ) → IsSetting s → 1 ≤ max → max ≤ s.buffer → lba + count ≤ capacity_of s.geometry →
    AllByRecursion (IsCutOut s max (lba + count)) (pieces_of s.geometry max lba count)
all-cut s max lba count setting some most within =
    each-piece (IsCutOut s max (lba + count)) s.geometry max (lba + count) count lba count setting.array some within refl
    (λ at more one e. record {
      is_piece = record {
        in_array = omega (arith, one, e, within);
        placed = refl;
        some = some-first s.geometry max at more setting.array some one (omega (arith, e, within));
        in_unit = omega arith;
        in_buffer = omega (arith, most);
      };
      last = omega (arith, e);
      most = omega arith;
    })

cut-out : (s : Setting) (max lba count number : ℕ) (piece : Piece) → IsSetting s → 1 ≤ max → max ≤ s.buffer → lba + count ≤ capacity_of s.geometry →
    slice_get (pieces_of s.geometry max lba count) number ≡ Some piece → IsCutOut s max (lba + count) piece
cut-out s max lba count number piece setting some most within e =
    at-number (IsCutOut s max (lba + count)) (pieces_of s.geometry max lba count) number piece (all-cut s max lba count setting some most within) e

-- ---- the piece of a number

-- it is a piece of the array, which a buffer has room for
pub piece-is : (s : Setting) (max lba count number : ℕ) (piece : Piece) → IsSetting s → 1 ≤ max → max ≤ s.buffer → lba + count ≤ capacity_of s.geometry →
    slice_get (pieces_of s.geometry max lba count) number ≡ Some piece → IsPiece s piece
piece-is s max lba count number piece setting some most within e = (cut-out s max lba count number piece setting some most within e).is_piece

-- it lies within the blocks that were cut
pub piece-within : (s : Setting) (max lba count number : ℕ) (piece : Piece) → IsSetting s → 1 ≤ max → max ≤ s.buffer → lba + count ≤ capacity_of s.geometry →
    slice_get (pieces_of s.geometry max lba count) number ≡ Some piece → (lba ≤ piece.first) × (piece.first + piece.count ≤ lba + count)
piece-within s max lba count number piece setting some most within e =
    (piece-from s.geometry max lba count number piece e, (cut-out s max lba count number piece setting some most within e).last)

-- it has no more blocks than a command may have
pub piece-most : (s : Setting) (max lba count number : ℕ) (piece : Piece) → IsSetting s → 1 ≤ max → max ≤ s.buffer → lba + count ≤ capacity_of s.geometry →
    slice_get (pieces_of s.geometry max lba count) number ≡ Some piece → piece.count ≤ max
piece-most s max lba count number piece setting some most within e = (cut-out s max lba count number piece setting some most within e).most

-- some blocks of a run have their bytes among its bytes
bytes-within : (lba count first many block : ℕ) → lba ≤ first → first + many ≤ lba + count → (first - lba) * block + many * block ≤ count * block
bytes-within lba count first many block low high =
    omega (arith, add-mul (first - lba) many block, mul-le ((first - lba) + many) block count block (omega (arith, low, high)) (omega arith))

-- and it has all its bytes among those of a call
pub piece-bytes : (s : Setting) (max lba count number : ℕ) (piece : Piece) (bytes : List ℕ) → IsSetting s → 1 ≤ max → max ≤ s.buffer →
    lba + count ≤ capacity_of s.geometry → slice_get (pieces_of s.geometry max lba count) number ≡ Some piece → length bytes ≡ count * s.geometry.block →
    length (slice bytes ((piece.first - lba) * s.geometry.block) (piece.count * s.geometry.block)) ≡ piece.count * s.geometry.block
piece-bytes s max lba count number piece bytes setting some most within e whole =
    let inside : (lba ≤ piece.first) × (piece.first + piece.count ≤ lba + count) = piece-within s max lba count number piece setting some most within e in
    length-slice bytes ((piece.first - lba) * s.geometry.block) (piece.count * s.geometry.block)
    (omega (arith, whole, bytes-within lba count piece.first piece.count s.geometry.block inside.0 inside.1))
