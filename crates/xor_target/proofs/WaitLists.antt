-- The first element that passes a test, and the list without it.
use Rattle.std.specs.Prelude.{◌≡◌, ◌<◌, ◌≤◌, ℕ, suc, zero, Bool, true, false, List, [], ◌∷◌, ◌++◌, take, drop, length, filter, Option, Some, None, is_some}
use Rattle.std.specs.Option.{IsSome}
use Rattle.std.specs.List.{AllByRecursion, find, position, position_or_len, slice_get}
use Rattle.std.proofs.Common.{subst, refl, ap, sym, ◌∙◌, cond, arith, get_or}
use Rattle.std.proofs.lemmas.Bool.{false≢true, ltb-false}
use Rattle.std.proofs.lemmas.List.Quantifiers.{position-Some}
use Rattle.std.proofs.lemmas.List.Folds.{find_at}

found-first : {X : Type 0} (p : X → Bool) (xs : List X) (i : ℕ) (d : X) → i < length xs → p (get_or xs i d) ≡ true → ((k : ℕ) → k < i → p (get_or xs k d) ≡ false) →
    find p xs ≡ Some (get_or xs i d)
found-first p [] i d h t before = absurd (omega arith)
found-first p (x ∷ xs) zero d h t before = ap (λ c. cond c (Some x) (find p xs)) t
found-first p (x ∷ xs) (suc i) d h t before =
    ap (λ c. cond c (Some x) (find p xs)) (before 0 (omega arith)) ∙ found-first p xs i d (omega arith) t (λ k l. before (suc k) (omega arith))

-- what stands at the place of the first that passes is the first that passes
pub found-at : {X : Type 0} (p : X → Bool) (xs : List X) (i : ℕ) (x : X) → position p xs ≡ Some i → x ≡ get_or xs i x → Some x ≡ find p xs
found-at p xs i x at is =
    let h = position-Some p xs i x at in
    ap Some is ∙ sym (found-first p xs i x h.0 h.1 h.2)

pub past-end : {X : Type 0} (xs : List X) (i : ℕ) → length xs ≤ i → slice_get xs i ≡ None
past-end [] i h = refl
past-end (x ∷ xs) zero h = absurd (omega arith)
past-end (x ∷ xs) (suc i) h = past-end xs i (omega arith)

no-place : {X : Type 0} (b : Bool) (x : X) → cond b (Some x) None ≡ None → b ≡ false
no-place true x h = absurd cc
no-place false x h = refl

-- there is none that passes where it has no place
pub found-none : {X : Type 0} (p : X → Bool) (xs : List X) → position p xs ≡ None → None ≡ find p xs
found-none p xs none =
    sym (find_at p xs ∙ past-end xs (position_or_len p xs) (ltb-false (position_or_len p xs) (length xs) (no-place _ (position_or_len p xs) none)))

-- there is a place where one passes
pub placed : {X : Type 0} (p : X → Bool) (xs : List X) (o : Option ℕ) → position p xs ≡ o → is_some (find p xs) ≡ true → IsSome o
placed p xs None none some = absurd (false≢true (ap is_some (found-none p xs none) ∙ some))
placed p xs (Some i) at some = refl

filtered-without : {X : Type 0} (q : X → Bool) (xs : List X) (i : ℕ) (d : X) → i < length xs → q (get_or xs i d) ≡ false → filter q (take i xs ++ drop (suc i) xs) ≡ filter q xs
filtered-without q [] i d h e = absurd (omega arith)
filtered-without q (x ∷ xs) zero d h e = sym (ap (λ c. cond c (x ∷ filter q xs) (filter q xs)) e)
filtered-without q (x ∷ xs) (suc i) d h e = ap (λ r. cond (q x) (x ∷ r) r) (filtered-without q xs i d (omega arith) e)

-- a list without the first that passes, without all that pass
pub without-first : {X : Type 0} (p q : X → Bool) (xs : List X) (i : ℕ) (d : X) → ((x : X) → p x ≡ true → q x ≡ false) → position p xs ≡ Some i →
    filter q (take i xs ++ drop (suc i) xs) ≡ filter q xs
without-first p q xs i d other at =
    let h = position-Some p xs i d at in
    filtered-without q xs i d h.0 (other (get_or xs i d) h.1)

-- what is true of all elements is true of those that pass a test
pub all-filtered : {X : Type 0} (P : X → Type 0) (q : X → Bool) (xs : List X) → AllByRecursion P xs → AllByRecursion P (filter q xs)
all-filtered P q [] h = tt
all-filtered P q (x ∷ xs) h = choose (q x) (all-filtered P q xs h.1)
  where
    choose : (b : Bool) → AllByRecursion P (filter q xs) → AllByRecursion P (cond b (x ∷ filter q xs) (filter q xs))
    choose true rest = (h.0, rest)
    choose false rest = rest

-- and of all and one more
pub all-more : {X : Type 0} (P : X → Type 0) (xs : List X) (x : X) → AllByRecursion P xs → P x → AllByRecursion P (xs ++ x ∷ [])
all-more P [] x h p = (p, tt)
all-more P (y ∷ xs) x h p = (h.0, all-more P xs x h.1 p)

-- and of the first that passes a test
pub all-found : {X : Type 0} (P : X → Type 0) (p : X → Bool) (xs : List X) (x : X) → AllByRecursion P xs → find p xs ≡ Some x → P x
all-found P p [] x h found = absurd cc
all-found P p (y ∷ xs) x h found = choose (p y) found (all-found P p xs x h.1)
  where
    choose : (b : Bool) → cond b (Some y) (find p xs) ≡ Some x → (find p xs ≡ Some x → P x) → P x
    choose true e older = let same : y ≡ x = cc in subst P same h.0
    choose false e older = older e

-- the first that passes a test does
pub found-passes : {X : Type 0} (p : X → Bool) (xs : List X) (x : X) → find p xs ≡ Some x → p x ≡ true
found-passes p [] x found = absurd cc
found-passes {X = X} p (y ∷ xs) x found = choose (p y) refl found (found-passes p xs x)
  where
    choose : (b : Bool) → p y ≡ b → cond b (Some y) (find p xs) ≡ Some x → (find p xs ≡ Some x → p x ≡ true) → p x ≡ true
    choose true own e older = let same : y ≡ x = cc in subst (λ (z : X). p z ≡ true) same own
    choose false own e older = older e
