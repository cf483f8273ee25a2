-- No piece of some blocks begins before them.
use Rattle.std.proofs.Common.{◌≡◌, ℕ, zero, suc, ◌+◌, ◌≤◌, List, [], ◌∷◌, Some, subst, arith}
use Rattle.std.specs.Prelude.{slice_get}
use Rattle.std.specs.List.{AllByRecursion}
use Rattle.std.proofs.lemmas.Option.{none-some, same_Some}
use Rattle.stripe_layout.specs.declared.geometry.Geometry.{Geometry}
use Rattle.stripe_layout.specs.declared.pieces.Piece.{Piece}
use Rattle.stripe_layout.specs.Pieces.{first_count, cut, pieces_of}

at-number : (P : Piece → Type 0) (pieces : List Piece) (n : ℕ) (piece : Piece) → AllByRecursion P pieces → slice_get pieces n ≡ Some piece → P piece
at-number P [] n piece all e = absurd (none-some piece e)
at-number P (first ∷ pieces) zero piece all e = subst P (same_Some first piece e) all.0
at-number P (first ∷ pieces) (suc n) piece all e = at-number P pieces n piece all.1 e

all-from : (g : Geometry) (max left lba count from : ℕ) → from ≤ lba → AllByRecursion (λ (piece : Piece). from ≤ piece.first) (cut g max left lba count)
all-from g max zero lba count from le = tt
all-from g max (suc left) lba zero from le = tt
all-from g max (suc left) lba (suc others) from le = (le, all-from g max left (lba + first_count g max lba (suc others)) _ from (omega (arith, le)))

pub piece-from : (g : Geometry) (max lba count number : ℕ) (piece : Piece) → slice_get (pieces_of g max lba count) number ≡ Some piece → lba ≤ piece.first
piece-from g max lba count number piece e =
    at-number (λ (p : Piece). lba ≤ p.first) (pieces_of g max lba count) number piece (all-from g max count lba count lba (omega arith)) e
