-- Numbers, one after another, that pass a test.
use Rattle.std.proofs.Common.{◌≡◌, ℕ, zero, suc, ◌+◌, ◌-◌, ◌<◌, ◌≤◌, ◌&&◌, Bool, true, false, [], ◌∷◌, refl, arith, add-one, ⊎_elim}
use Rattle.std.specs.Prelude.{filter}
use Rattle.std.specs.List.{list_all}
use Rattle.std.proofs.lemmas.List.Folds.{list_all-append}
use Rattle.std.proofs.lemmas.Bool.{cases_eq}
use Rattle.array_journal.specs.Lists.{numbers}
use Rattle.stripe_check.proofs.Counting.{numbers-more}

-- all numbers pass, one more
pub all-more : (p : ℕ → Bool) (n : ℕ) → p n ≡ true → list_all p (numbers 0 n) ≡ true → list_all p (numbers 0 (n + 1)) ≡ true
all-more p n here before = rw (numbers-more n, list_all-append p (numbers 0 n) (n ∷ []), before, here) refl

and_false : (b : Bool) → (b && false) ≡ false
and_false true = refl
and_false false = refl

all-not : (p : ℕ → Bool) (a k n : ℕ) → a ≤ k → k < a + n → p k ≡ false → list_all p (numbers a n) ≡ false
all-not p a k zero le lt here = let no : ⊥ = omega arith in absurd no
all-not p a k (suc n) le lt here = ⊎_elim
    (λ (same : a ≡ k). rw (same, here) refl)
    (λ (other : a ≡ k → ⊥). rw (all-not p (suc a) k n (omega arith) (omega arith) here) (and_false (p a))) (cases_eq a k)

-- some number doesn't
pub all-else : (p : ℕ → Bool) (k n : ℕ) → k < n → p k ≡ false → list_all p (numbers 0 n) ≡ false
all-else p k n lt here = all-not p 0 k n (omega arith) (omega arith) here

numbers-first : (k n : ℕ) → k < n → numbers k (n - k) ≡ k ∷ numbers (k + 1) (n - (k + 1))
numbers-first k n lt =
    let e : n - k ≡ suc (n - (k + 1)) = omega arith in
    rw (e, add-one) refl

-- numbers from one on, the first of which passes or doesn't
pub filter-first : (p : ℕ → Bool) (k n : ℕ) → k < n → p k ≡ true → filter p (numbers k (n - k)) ≡ k ∷ filter p (numbers (k + 1) (n - (k + 1)))
filter-first p k n lt here = rw (numbers-first k n lt, here) refl

pub filter-next : (p : ℕ → Bool) (k n : ℕ) → k < n → p k ≡ false → filter p (numbers k (n - k)) ≡ filter p (numbers (k + 1) (n - (k + 1)))
filter-next p k n lt here = rw (numbers-first k n lt, here) refl
