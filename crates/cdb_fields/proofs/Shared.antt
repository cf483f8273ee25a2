-- The lowest place with a one bit in common is one, and there is none where each byte has none.
use Rattle.std.proofs.Common.{◌≡◌, ℕ, zero, suc, inl, inr, List, [], ◌∷◌, get_or, length, refl, ap, ◌∙◌, arith}
use Rattle.std.proofs.lemmas.Bool.{cases_lt}
use Rattle.std.proofs.lemmas.List.{get_or_past}
use Rattle.std.specs.List.{EachIndex}
use Rattle.std.specs.Int.Bits.{bit_and, and_zero_r}
use Rattle.cdb_fields.specs.Fields.{IsFirstShared, SharesNone}

pub first_shared_unique : (mask bytes : List ℕ) (i j : ℕ) → IsFirstShared mask bytes i → IsFirstShared mask bytes j → i ≡ j
first_shared_unique mask bytes i j a b =
    elim (cases_lt i j) [
      | inl low ↦ absurd (a.1 (b.2 i low))
      | inr high ↦ elim (cases_lt j i) [
        | inl low ↦ absurd (b.1 (a.2 j low))
        | inr same ↦ omega arith
      ]
    ]

-- no place of the two lists has a bit in common
abbrev pub ZipNone : List ℕ → List ℕ → Type 0
ZipNone [] bytes = Unit {0}
ZipNone (m ∷ ms) [] = Unit {0}
ZipNone (m ∷ ms) (b ∷ bs) = (bit_and m b ≡ 0) × ZipNone ms bs

pub zip_none : (mask bytes : List ℕ) → ZipNone mask bytes → (k : ℕ) → SharesNone mask bytes k
zip_none [] bytes h k = refl
zip_none (m ∷ ms) [] h k = and_zero_r (get_or (m ∷ ms) k 0)
zip_none (m ∷ ms) (b ∷ bs) h zero = h.0
zip_none (m ∷ ms) (b ∷ bs) h (suc k) = zip_none ms bs h.1 k

pub none_anywhere : (mask bytes : List ℕ) → EachIndex bytes (SharesNone mask bytes) → (k : ℕ) → SharesNone mask bytes k
none_anywhere mask bytes h k =
    elim (cases_lt k (length bytes)) [
      | inl inside ↦ h k inside
      | inr past ↦ ap (λ b. bit_and (get_or mask k 0) b) (get_or_past bytes k 0 past) ∙ and_zero_r (get_or mask k 0)
    ]
