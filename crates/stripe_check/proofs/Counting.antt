-- Lists of numbers, one after another.
use Rattle.std.proofs.Common.{◌≡◌, ℕ, zero, suc, ◌+◌, ◌<◌, ◌≤◌, ◌||◌, Bool, true, false, List, [], ◌∷◌, ◌++◌, length, append_assoc, ⊎_elim, refl, ap, sym, ◌∙◌, arith}
use Rattle.std.specs.Prelude.{filter}
use Rattle.std.specs.List.{list_any, flat_map}
use Rattle.std.proofs.Common.{length-append, add-one}
use Rattle.std.proofs.lemmas.List.Elements.{filter-append}
use Rattle.std.proofs.lemmas.List.Folds.{list_any-append}
use Rattle.std.proofs.lemmas.Grind.{flat_map-append}
use Rattle.std.proofs.lemmas.List.{append-nil}
use Rattle.std.proofs.lemmas.Bool.{cases_eq}
use Rattle.array_journal.specs.Lists.{numbers}

numbers-suc : (a n : ℕ) → numbers a (suc n) ≡ numbers a n ++ (a + n) ∷ []
numbers-suc a zero = ap (λ x. x ∷ []) (omega arith)
numbers-suc a (suc n) = ap (λ xs. a ∷ xs) (numbers-suc (suc a) n ∙ ap (λ x. numbers (suc a) n ++ x ∷ []) (omega arith))

-- one more number
pub numbers-more : (n : ℕ) → numbers 0 (n + 1) ≡ numbers 0 n ++ n ∷ []
numbers-more n = rw add-one (numbers-suc 0 n ∙ ap (λ x. numbers 0 n ++ x ∷ []) (omega arith))

pub any-more : (p : ℕ → Bool) (n : ℕ) → p n ≡ false → list_any p (numbers 0 n) ≡ false → list_any p (numbers 0 (n + 1)) ≡ false
any-more p n here before = rw (numbers-more n, list_any-append p (numbers 0 n) (n ∷ []), before, here) refl

pub filter-here : (p : ℕ → Bool) (n count : ℕ) → p n ≡ true → count ≡ length (filter p (numbers 0 n)) → count + 1 ≡ length (filter p (numbers 0 (n + 1)))
filter-here p n count here so_far = rw (numbers-more n, filter-append p (numbers 0 n) (n ∷ []), here, so_far) (sym (length-append (filter p (numbers 0 n)) (n ∷ [])))

pub filter-else : (p : ℕ → Bool) (n count : ℕ) → p n ≡ false → count ≡ length (filter p (numbers 0 n)) → count ≡ length (filter p (numbers 0 (n + 1)))
filter-else p n count here so_far = rw (numbers-more n, filter-append p (numbers 0 n) (n ∷ []), here, append-nil (filter p (numbers 0 n))) so_far

pub flat_map-here : (f : ℕ → List ℕ) (n : ℕ) → flat_map f (numbers 0 (n + 1)) ≡ flat_map f (numbers 0 n) ++ f n
flat_map-here f n = rw (numbers-more n, flat_map-append f (numbers 0 n) (n ∷ []), append-nil (f n)) refl

any-from : (p : ℕ → Bool) (a k n : ℕ) → a ≤ k → k < a + n → p k ≡ true → list_any p (numbers a n) ≡ true
any-from p a k zero le lt here = let no : ⊥ = omega arith in absurd no
any-from p a k (suc n) le lt here = ⊎_elim
    (λ (same : a ≡ k). rw (same, here) refl)
    (λ (other : a ≡ k → ⊥). rw (any-from p (suc a) k n (omega arith) (omega arith) here) (or_true (p a))) (cases_eq a k)
  where
    or_true : (b : Bool) → (b || true) ≡ true
    or_true true = refl
    or_true false = refl

-- some number passes
pub any-here : (p : ℕ → Bool) (k n : ℕ) → k < n → p k ≡ true → list_any p (numbers 0 n) ≡ true
any-here p k n lt here = any-from p 0 k n (omega arith) (omega arith) here

-- tests that agree on the numbers choose the same
pub same-filter : (p q : ℕ → Bool) (a n : ℕ) → ((k : ℕ) → k < a + n → p k ≡ q k) → filter p (numbers a n) ≡ filter q (numbers a n)
same-filter p q a zero same = refl
same-filter p q a (suc n) same = rw (same a (omega arith), same-filter p q (suc a) n (λ k lt. same k (omega arith))) refl

pub same-any : (p q : ℕ → Bool) (a n : ℕ) → ((k : ℕ) → k < a + n → p k ≡ q k) → list_any p (numbers a n) ≡ list_any q (numbers a n)
same-any p q a zero same = refl
same-any p q a (suc n) same = rw (same a (omega arith), same-any p q (suc a) n (λ k lt. same k (omega arith))) refl

pub same-flat_map : (f g : ℕ → List ℕ) (a n : ℕ) → ((k : ℕ) → k < a + n → f k ≡ g k) → flat_map f (numbers a n) ≡ flat_map g (numbers a n)
same-flat_map f g a zero same = refl
same-flat_map f g a (suc n) same = rw (same a (omega arith), same-flat_map f g (suc a) n (λ k lt. same k (omega arith))) refl

-- text that was put behind for one more number
pub said-more : (f : ℕ → List ℕ) (n : ℕ) (start before after : List ℕ) → before ≡ start ++ flat_map f (numbers 0 n) → after ≡ before ++ f n → after ≡ start ++ flat_map f (numbers 0 (n + 1))
said-more f n start before after so_far said =
    said ∙ ap (λ xs. xs ++ f n) so_far ∙ append_assoc start (flat_map f (numbers 0 n)) (f n) ∙ ap (λ xs. start ++ xs) (sym (flat_map-here f n))
