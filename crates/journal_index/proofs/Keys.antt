-- Which keys of a map are one, and what a map has at a key once another was put in.
use Rattle.std.proofs.Common.{◌≡◌, ◌==◌, ◌&&◌, ℕ, Bool, true, false, cond, Option, Some, refl, ap, sym, ◌∙◌, ⊎_elim, unwrap_or}
use Rattle.std.proofs.lemmas.Bool.{cases_eq, ne_eqb}
use Rattle.std.specs.Cmp.{tied_then}
use Rattle.std.specs.Ordering.{nat_cmp, is_eq, ordering_then}
pub use Rattle.dirty_list.proofs.Lookups.{tied-numbers}

-- two pairs of numbers compare as equal where they are one
pub tied-pairs : (a b x y : ℕ) → is_eq (ordering_then (nat_cmp a x) (nat_cmp b y)) ≡ (a == x) && (b == y)
tied-pairs a b x y =
    sym (tied_then (nat_cmp a x) (nat_cmp b y))
    ∙ ap (λ t. t && is_eq (nat_cmp b y)) (tied-numbers a x)
    ∙ ap (λ t. (a == x) && t) (tied-numbers b y)

-- choices by the same test between the same values
pub picked : {A : Type 0} {a b : Bool} {x y z w : A} → a ≡ b → x ≡ z → y ≡ w → cond a x y ≡ cond b z w
picked {A} {a} {b} {x} {y} {z} {w} h g k = ap (λ t. cond t x y) h ∙ ap (λ t. cond b t y) g ∙ ap (λ t. cond b z t) k

-- a value that goes by the key may go by the key that is asked
pub here_or_else : {A : Type 0} (k q : ℕ) (f : ℕ → A) (y : A) → cond (is_eq (nat_cmp k q)) (f k) y ≡ cond (k == q) (f q) y
here_or_else {A} k q f y = ap (λ t. cond t (f k) y) (tied-numbers k q) ∙ ⊎_elim same apart (cases_eq k q)
  where
    same : k ≡ q → cond (k == q) (f k) y ≡ cond (k == q) (f q) y
    same e = ap (λ l. cond (k == q) (f l) y) e

    apart : (k ≡ q → ⊥) → cond (k == q) (f k) y ≡ cond (k == q) (f q) y
    apart h = ap (λ b. cond b (f k) y) (ne_eqb k q h) ∙ sym (ap (λ b. cond b (f q) y) (ne_eqb k q h))

-- what a map has that was put in by its key, where a key that isn't there has a value all the same
pub put_or : {A : Type 0} (k q : ℕ) (v d : A) (after before : Option A) (f : ℕ → A) (y : A) →
    after ≡ cond (is_eq (nat_cmp k q)) (Some v) before → v ≡ f k → unwrap_or before d ≡ y →
    unwrap_or after d ≡ cond (k == q) (f q) y
put_or {A} k q v d after before f y h g r =
    ap (λ o. unwrap_or o d) h ∙ pulled (is_eq (nat_cmp k q)) ∙ picked refl g r ∙ here_or_else k q f y
  where
    pulled : (b : Bool) → unwrap_or (cond b (Some v) before) d ≡ cond b v (unwrap_or before d)
    pulled true = refl
    pulled false = refl
