-- All stamps of a lock are below another where the greatest is.
use Rattle.std.proofs.Common.{◌≡◌, ℕ, ◌<◌, ◌≤◌, Bool, true, false, cond, List, [], ◌∷◌, Option, Some, None, refl, ap, sym, ◌∙◌, ⊎_elim, arith, ◌==◌, ◌&&◌, ◌||◌, not, nat_lt}
use Rattle.std.proofs.lemmas.Bool.{cases_lt, lt-ltb, le-ltb}
use Rattle.array_journal.specs.declared.entry.Entry.{Entry}
use Rattle.array_journal.specs.Entries.{stamps_below}
use Rattle.journal_index.specs.Stamps.{greater_of, greatest_of, is_above}

and_true : (b : Bool) → (b && true) ≡ b
and_true true = refl
and_true false = refl

and_false : (b : Bool) → (b && false) ≡ false
and_false true = refl
and_false false = refl

-- two numbers are below a third where the greater is
both_below : (s m t : ℕ) → (nat_lt s t && nat_lt m t) ≡ nat_lt (cond (nat_lt m s) s m) t
both_below s m t = ⊎_elim under over (cases_lt m s)
  where
    chosen : (b : Bool) (n : ℕ) → nat_lt m s ≡ b → nat_lt (cond b s m) t ≡ nat_lt n t → nat_lt (cond (nat_lt m s) s m) t ≡ nat_lt n t
    chosen b n h g = ap (λ x. nat_lt (cond x s m) t) h ∙ g

    under : m < s → (nat_lt s t && nat_lt m t) ≡ nat_lt (cond (nat_lt m s) s m) t
    under h =
        ⊎_elim
        (λ g. ap (λ b. b && nat_lt m t) (lt-ltb s t g) ∙ lt-ltb m t (omega (arith, h, g)) ∙ sym (lt-ltb s t g))
        (λ g. ap (λ b. b && nat_lt m t) (le-ltb s t g) ∙ sym (le-ltb s t g))
        (cases_lt s t)
        ∙ sym (chosen true s (lt-ltb m s h) refl)

    over : s ≤ m → (nat_lt s t && nat_lt m t) ≡ nat_lt (cond (nat_lt m s) s m) t
    over h =
        ⊎_elim
        (λ g. ap (λ b. b && nat_lt m t) (lt-ltb s t (omega (arith, h, g))))
        (λ g. ap (λ b. nat_lt s t && b) (le-ltb m t g) ∙ and_false (nat_lt s t) ∙ sym (le-ltb m t g))
        (cases_lt m t)
        ∙ sym (chosen false m (le-ltb m s h) refl)

one_more : (b : Bool) (s : ℕ) (g : Option ℕ) (t : ℕ) (below : Bool) → below ≡ is_above g t →
    ((not b || nat_lt s t) && below) ≡ is_above (cond b (Some (greater_of g s)) g) t
one_more false s g t below h = h
one_more true s None t below h = ap (λ x. nat_lt s t && x) h ∙ and_true (nat_lt s t)
one_more true s (Some m) t below h = ap (λ x. nat_lt s t && x) h ∙ both_below s m t

pub below-greatest : (lock t : ℕ) (past : List Entry) → stamps_below lock t past ≡ is_above (greatest_of lock past) t
below-greatest lock t [] = refl
below-greatest lock t (e ∷ past) =
    one_more (e.lock == lock) e.stamp (greatest_of lock past) t (stamps_below lock t past) (below-greatest lock t past)
