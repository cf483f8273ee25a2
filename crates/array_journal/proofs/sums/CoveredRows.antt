-- Which rows whole blocks cover.
use Rattle.std.proofs.Common.{◌≡◌, ℕ, ◌+◌, ◌*◌, ◌/◌, ◌<◌, ◌≤◌, inl, inr, true, false, ap, ◌∙◌, arith}
use Rattle.std.specs.Prelude.{nat_le, nat_lt}
use Rattle.std.proofs.lemmas.Bool.{and_left, and_right, and_from, lt-ltb, le-ltb, le-leb, lt-leb}
use Rattle.std.proofs.lemmas.Nat.{div-mul-add}
use Rattle.array_journal.specs.Deltas.{covers}
use Rattle.array_journal.proofs.sums.LayoutLaws.{IsBeside}

-- so many whole blocks cover their rows and no others
pub blocks_in : (b count len : ℕ) → 1 ≤ b → len ≡ count * b → len / b ≡ count
blocks_in b count len h e = ap (λ n. n / b) whole ∙ div-mul-add count b 0 (omega arith)
  where
    whole : len ≡ count * b + 0
    whole = omega arith

pub covers-in : (b row len count j : ℕ) → 1 ≤ b → len ≡ count * b → j < count → covers b row len (row + j) ≡ true
covers-in b row len count j h e k =
    and_from (nat_le row (row + j)) (nat_lt (row + j) (row + len / b)) (le-leb row (row + j) (omega arith))
    (lt-ltb (row + j) (row + len / b) (omega (arith, blocks_in b count len h e)))

pub covers-beside : (b row len count r : ℕ) → 1 ≤ b → len ≡ count * b → IsBeside row count r → covers b row len r ≡ false
covers-beside b row len count r h e (inl before) = and_left (nat_le row r) (nat_lt r (row + len / b)) (lt-leb row r before)
covers-beside b row len count r h e (inr after) =
    and_right (nat_le row r) (nat_lt r (row + len / b)) (le-ltb r (row + len / b) (omega (arith, blocks_in b count len h e)))
