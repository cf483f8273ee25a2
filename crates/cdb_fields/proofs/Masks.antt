-- A byte in which some bits are zero is made of its other bits: by trying all 256 bytes.
use Rattle.std.proofs.Common.{◌≡◌, ℕ, zero, suc, ◌<◌, inl, inr, Bool, true, false, ◌&&◌, cond, eqb, refl, sym, ap, ◌∙◌, arith}
use Rattle.std.proofs.lemmas.Bool.{eq-eqb, eqb-true, cases_eq}
use Rattle.std.specs.Int.Bits.{bit_and}

-- the test passes at each number below n
abbrev pub passes_below : ℕ → (ℕ → Bool) → Bool
passes_below zero p = true
passes_below (suc n) p = p n && passes_below n p

pub both_true : (a b : Bool) → (a && b) ≡ true → (a ≡ true) × (b ≡ true)
both_true true b e = (refl, e)
both_true false b e = absurd (false-true e)
  where
    false-true : false ≡ true → ⊥
    false-true h = cc

pub passes_at : (n : ℕ) (p : ℕ → Bool) → passes_below n p ≡ true → (k : ℕ) → k < n → p k ≡ true
passes_at zero p e k h = absurd (omega arith)
passes_at (suc n) p e k h =
    elim (cases_eq k n) [
      | inl same ↦ ap p same ∙ (both_true (p n) (passes_below n p) e).0
      | inr other ↦ passes_at n p (both_true (p n) (passes_below n p) e).1 k (omega arith)
    ]

-- the byte has none of the bits of the mask, and then it is f of itself
abbrev pub is_made_of : ℕ → (ℕ → ℕ) → ℕ → Bool
is_made_of mask f b = cond (eqb (bit_and mask b) 0) (eqb b (f b)) true

pub made_of : (mask : ℕ) (f : ℕ → ℕ) → passes_below 256 (is_made_of mask f) ≡ true → (b : ℕ) → b < 256 → bit_and mask b ≡ 0 → b ≡ f b
made_of mask f e b h none =
    eqb-true b (f b) (sym (ap (λ t. cond t (eqb b (f b)) true) (eq-eqb (bit_and mask b) 0 none)) ∙ passes_at 256 (is_made_of mask f) e b h)

pub all_reserved : (b : ℕ) → b < 256 → bit_and 0xff b ≡ 0 → b ≡ 0
all_reserved b h none = made_of 0xff (λ _. 0) refl b h none
