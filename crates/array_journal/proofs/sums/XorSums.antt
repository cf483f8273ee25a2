-- The exclusive-or of a block of each of some numbers.
use Rattle.std.proofs.Common.{◌≡◌, ℕ, zero, suc, ◌+◌, ◌<◌, ◌≤◌, List, ◌∷◌, refl, ap, ◌∙◌, arith, sym}
use Rattle.std.specs.Prelude.{map}
use Rattle.blocks_core.specs.Xor.{xor, zeros, xor_all}
use Rattle.blocks_core.proofs.XorLaws.{zeros-zeros, xor-assoc, xor-comm}
use Rattle.array_journal.specs.Lists.{numbers}

-- the blocks of some numbers, one after another
pub same_blocks : (f h : ℕ → List ℕ) (m first : ℕ) → ((x : ℕ) → first ≤ x → x < first + m → h x ≡ f x) →
    map h (numbers first m) ≡ map f (numbers first m)
same_blocks f h zero first same = refl
same_blocks f h (suc m) first same =
    ap (λ x. x ∷ map h (numbers (suc first) m)) (same first (omega arith) (omega arith))
    ∙ ap (λ t. f first ∷ t) (same_blocks f h m (suc first) (λ x low high. same x (omega arith) (omega arith)))

pub xor_all-zeros : (b : ℕ) (f : ℕ → List ℕ) (m first : ℕ) → ((x : ℕ) → first ≤ x → x < first + m → f x ≡ zeros b) →
    xor_all b (map f (numbers first m)) ≡ zeros b
xor_all-zeros b f zero first none = refl
xor_all-zeros b f (suc m) first none =
    ap (λ x. xor x (xor_all b (map f (numbers (suc first) m)))) (none first (omega arith) (omega arith))
    ∙ ap (xor (zeros b)) (xor_all-zeros b f m (suc first) (λ x low high. none x (omega arith) (omega arith))) ∙ zeros-zeros b

-- a block of two in front of the rest may come first
pub xor-front : (x y z : List ℕ) → xor x (xor y z) ≡ xor y (xor x z)
xor-front x y z = sym (xor-assoc x y z) ∙ ap (λ w. xor w z) (xor-comm x y) ∙ xor-assoc y x z
