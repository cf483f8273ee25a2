-- Numbers that pass a test, counted one after the other.
use Rattle.std.proofs.Common.{◌≡◌, ℕ, zero, suc, ◌+◌, Bool, true, false, [], ◌∷◌, ◌++◌, length, length-append, add-one, ap, sym, ◌∙◌, arith}
use Rattle.std.specs.Prelude.{filter}
use Rattle.std.proofs.lemmas.List.Elements.{filter-append}
use Rattle.std.proofs.lemmas.List.{append-nil}
use Rattle.array_journal.specs.Lists.{numbers}

numbers-suc : (a n : ℕ) → numbers a (suc n) ≡ numbers a n ++ (a + n) ∷ []
numbers-suc a zero = ap (λ x. x ∷ []) (omega arith)
numbers-suc a (suc n) = ap (λ xs. a ∷ xs) (numbers-suc (suc a) n ∙ ap (λ x. numbers (suc a) n ++ x ∷ []) (omega arith))

numbers-more : (n : ℕ) → numbers 0 (n + 1) ≡ numbers 0 n ++ n ∷ []
numbers-more n = rw add-one (numbers-suc 0 n ∙ ap (λ x. numbers 0 n ++ x ∷ []) (omega arith))

pub filter-here : (p : ℕ → Bool) (n count : ℕ) → p n ≡ true → count ≡ length (filter p (numbers 0 n)) → count + 1 ≡ length (filter p (numbers 0 (n + 1)))
filter-here p n count here so_far = rw (numbers-more n, filter-append p (numbers 0 n) (n ∷ []), here, so_far) (sym (length-append (filter p (numbers 0 n)) (n ∷ [])))

pub filter-else : (p : ℕ → Bool) (n count : ℕ) → p n ≡ false → count ≡ length (filter p (numbers 0 n)) → count ≡ length (filter p (numbers 0 (n + 1)))
filter-else p n count here so_far = rw (numbers-more n, filter-append p (numbers 0 n) (n ∷ []), here, append-nil (filter p (numbers 0 n))) so_far
