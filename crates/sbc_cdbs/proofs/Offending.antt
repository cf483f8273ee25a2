-- The lowest byte with an offending bit, as a function and as a relation.
use Rattle.std.proofs.Common.{◌≡◌, ℕ, zero, suc, ◌+◌, ◌<◌, List, [], ◌∷◌, length, Some, None, refl, ap, arith, ◌∙◌}
use Rattle.std.proofs.lemmas.Bool.{eq-eqb, ne_eqb}
use Rattle.std.specs.Int.Bits.{bit_and}
use Rattle.cdb_fields.specs.Fields.{SharesBit, SharesNone}
use Rattle.sbc_cdbs.specs.Faults.{first_offending}

pub first-found : (k : ℕ) (mask bytes : List ℕ) (i : ℕ) → length bytes ≡ length mask → i < length bytes → SharesBit mask bytes i
    → ((j : ℕ) → j < i → SharesNone mask bytes j) → first_offending k mask bytes ≡ Some (k + i)
first-found k [] bytes i len lt bit none = let no : ⊥ = omega (arith, len, lt) in absurd no
first-found k (m ∷ mask) [] i len lt bit none = let no : ⊥ = omega (arith, lt) in absurd no
first-found k (m ∷ mask) (b ∷ bytes) zero len lt bit none = rw (ne_eqb (bit_and m b) 0 bit) (ap Some (omega arith))
first-found k (m ∷ mask) (b ∷ bytes) (suc i) len lt bit none =
    rw (eq-eqb (bit_and m b) 0 (none 0 (omega arith)))
    (first-found (suc k) mask bytes i (omega (arith, len)) (omega (arith, lt)) bit (λ j l. none (suc j) (omega (arith, l))) ∙ ap Some (omega arith))

pub none-found : (k : ℕ) (mask bytes : List ℕ) → ((j : ℕ) → SharesNone mask bytes j) → first_offending k mask bytes ≡ None
none-found k [] bytes none = refl
none-found k (m ∷ mask) [] none = refl
none-found k (m ∷ mask) (b ∷ bytes) none =
    rw (eq-eqb (bit_and m b) 0 (none 0)) (none-found (suc k) mask bytes (λ j. none (suc j)))
