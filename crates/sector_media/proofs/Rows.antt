-- Rows that a medium has lie within its bytes.
use Rattle.std.proofs.Common.{◌≡◌, ◌≤◌, ◌+◌, ◌*◌, ℕ, List, length, subst, arith}
use Rattle.std.proofs.Math.Nat.{add-mul}
use Rattle.std.proofs.lemmas.Nat.{mul-le}
use Rattle.sector_media.specs.Media.{AreRows, Sectors}

rows-within : (block rows row len all : ℕ) → AreRows block rows row len → all ≡ rows * block → row * block + len ≤ all
rows-within block rows row len all r e =
    omega (arith, r.whole, e, add-mul row r.count block, mul-le (row + r.count) block rows block r.within (omega arith))

-- the same, where the medium is seen as these parts
pub rows-seen_within : (block rows : ℕ) (bytes : List ℕ) (medium : Sectors) (row len : ℕ) → record { block = block; rows = rows; bytes = bytes } ≡ medium →
    length bytes ≡ rows * block → AreRows medium.block medium.rows row len → row * block + len ≤ length medium.bytes
rows-seen_within block rows bytes medium row len seen whole =
    subst (λ (m : Sectors). AreRows m.block m.rows row len → row * block + len ≤ length m.bytes) seen (λ r. rows-within block rows row len (length bytes) r whole)
