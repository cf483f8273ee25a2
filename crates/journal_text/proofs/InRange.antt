-- Lists of numbers in range, and lists of which each element is as asked.
use Rattle.std.proofs.Common.{◌≡◌, ℕ, zero, suc, ◌<◌, ◌^◌, List, [], ◌∷◌, ◌++◌, length, reverse, get_or, subst, sym, Option, Some, None, arith}
use Rattle.std.specs.List.{AllByRecursion}
use Rattle.std.proofs.lemmas.List.{reverse-append}
use Rattle.std.proofs.lemmas.Option.{same_Some}
use Rattle.sense_data.specs.declared.senses.Pointer.{Pointer}
use Rattle.journal_text.specs.Readable.{IsPointer}
use Rattle.journal_text.specs.Told.{IsToldPointer}

pub all-below : (n : ℕ) (xs : List ℕ) → ((k : ℕ) → get_or xs k 0 < n) → AllByRecursion (λ b. b < n) xs
all-below n [] h = tt
all-below n (x ∷ xs) h = (h 0, all-below n xs (λ k. h (suc k)))

pub all-at : {A : Type 0} (P : A → Type 0) (xs : List A) (i : ℕ) (x : A) → AllByRecursion P xs → i < length xs → x ≡ get_or xs i x → P x
all-at P [] i x h lt e = let no : ⊥ = omega arith in absurd no
all-at P (y ∷ xs) zero x h lt e = subst P (sym e) h.0
all-at P (y ∷ xs) (suc i) x h lt e = all-at P xs i x h.1 (omega arith) e

-- ---- one element more, and the last one first

pub turned : {A : Type 0} (x : A) (xs : List A) → reverse (x ∷ xs) ≡ reverse xs ++ x ∷ []
turned x xs = reverse-append (x ∷ []) xs

pub all-more : {A : Type 0} (P : A → Type 0) (xs : List A) (x : A) → AllByRecursion P xs → P x → AllByRecursion P (xs ++ x ∷ [])
all-more P [] x h p = (p, tt)
all-more P (y ∷ xs) x h p = (h.0, all-more P xs x h.1 p)

pub all-turned : {A : Type 0} (P : A → Type 0) (xs : List A) → AllByRecursion P xs → AllByRecursion P (reverse xs)
all-turned P [] h = tt
all-turned P (x ∷ xs) h = subst (AllByRecursion P) (sym (turned x xs)) (all-more P (reverse xs) x (all-turned P xs h.1) h.0)

-- ---- pointers

pub told-pointer : (o : Option Pointer) (p : Pointer) → o ≡ Some p → IsToldPointer o → p.byte < 2 ^ 16 → IsPointer o
told-pointer None p e h lt = tt
told-pointer (Some q) p e h lt = (h.0, h.1, subst (λ (x : Pointer). x.byte < 2 ^ 16) (sym (same_Some q p e)) lt)
