-- Commands in rising order, gone through one after the other.
use Rattle.std.proofs.Common.{◌≡◌, ◌<◌, ◌≤◌, ◌==◌, ◌||◌, nat_lt, ℕ, Bool, true, false, List, [], ◌∷◌, refl, sym, ap, ◌∙◌, cond, subst, arith, inl, inr}
use Rattle.std.specs.BTreeMap.{is_at}
use Rattle.std.specs.Cmp.{unsigned_tied}
use Rattle.std.specs.List.{list_any, AllByRecursion}
use Rattle.std.specs.List.Sorted.{IsStrictlySortedBy}
use Rattle.std.specs.Ordering.{nat_cmp}
use Rattle.std.specs.declared.cmp.Ordering.TheVariants.{Less, Equal, Greater}
use Rattle.std.proofs.lemmas.Bool.{false≢true, cases_eq, eq-eqb, eqb-true, ne_eqb, ltb-true}
use Rattle.std.proofs.lemmas.Map.Keys.{sorted_head, sorted_tail}

-- whether a command is the one that is looked for
at-is : (c x : ℕ) → is_at (nat_cmp c) x ≡ (c == x)
at-is c x = unsigned_tied c x

less-lt : (x y : ℕ) → nat_cmp x y ≡ Less → x < y
less-lt x y h = by_test (nat_lt x y) (x == y) refl h
  where
    by_test : (b q : Bool) → nat_lt x y ≡ b → cond b Less (cond q Equal Greater) ≡ Less → x < y
    by_test true q is e = ltb-true x y is
    by_test false true is e = absurd cc
    by_test false false is e = absurd cc

-- one of several greater commands is greater
among-greater : (x c : ℕ) (ys : List ℕ) → AllByRecursion (λ y. nat_cmp x y ≡ Less) ys → list_any (is_at (nat_cmp c)) ys ≡ true → x ≤ c
among-greater x c [] all h = absurd (false≢true h)
among-greater x c (y ∷ ys) all h = by_test (is_at (nat_cmp c) y) refl (among-greater x c ys all.1) h
  where
    by_test : (b : Bool) → is_at (nat_cmp c) y ≡ b → (list_any (is_at (nat_cmp c)) ys ≡ true → x ≤ c) → (b || list_any (is_at (nat_cmp c)) ys) ≡ true → x ≤ c
    by_test true is others e =
        let same : c ≡ y = eqb-true c y (sym (at-is c y) ∙ is) in
        let lt : x < y = less-lt x y all.0 in
        omega (arith, same, lt)
    by_test false is others e = others e

-- one that doesn't pass is passed over
pub passed-over : (p has : ℕ → Bool) (xs rest : List ℕ) (x : ℕ) → xs ≡ x ∷ rest → p x ≡ false →
    ((c : ℕ) → p c ≡ true → has c ≡ list_any (is_at (nat_cmp c)) xs) → (c : ℕ) → p c ≡ true → has c ≡ list_any (is_at (nat_cmp c)) rest
passed-over p has xs rest x is fails left c passes =
    left c passes ∙ ap (list_any (is_at (nat_cmp c))) is ∙ ap (λ (b : Bool). b || list_any (is_at (nat_cmp c)) rest) (at-is c x ∙ other)
  where
    other : (c == x) ≡ false
    other = elim (cases_eq c x) [
      | inl same ↦ absurd (false≢true (sym fails ∙ ap p (sym same) ∙ passes))
      | inr apart ↦ ne_eqb c x apart
    ]

pub left-sorted : (xs rest : List ℕ) (x : ℕ) → xs ≡ x ∷ rest → IsStrictlySortedBy nat_cmp xs → IsStrictlySortedBy nat_cmp rest
left-sorted xs rest x is sorted = sorted_tail nat_cmp x rest (subst (λ (ys : List ℕ). IsStrictlySortedBy nat_cmp ys) is sorted)

-- the first that passes is the least
pub first-least : (p has : ℕ → Bool) (xs rest : List ℕ) (x : ℕ) → xs ≡ x ∷ rest → IsStrictlySortedBy nat_cmp xs →
    ((c : ℕ) → p c ≡ true → has c ≡ list_any (is_at (nat_cmp c)) xs) → p x ≡ true →
    ((has x ≡ true) × (p x ≡ true)) × ((c : ℕ) → has c ≡ true → p c ≡ true → x ≤ c)
first-least p has xs rest x is sorted left passes = (
  (left x passes ∙ ap (list_any (is_at (nat_cmp x))) is ∙ ap (λ (b : Bool). b || list_any (is_at (nat_cmp x)) rest) (at-is x x ∙ eq-eqb x x refl), passes),
  λ c member p'. among (is_at (nat_cmp c) x) c refl (sym (ap (list_any (is_at (nat_cmp c))) is) ∙ sym (left c p') ∙ member),
)
  where
    greater : AllByRecursion (λ y. nat_cmp x y ≡ Less) rest
    greater = sorted_head nat_cmp x rest (subst (λ (ys : List ℕ). IsStrictlySortedBy nat_cmp ys) is sorted)

    among : (b : Bool) (c : ℕ) → is_at (nat_cmp c) x ≡ b → (b || list_any (is_at (nat_cmp c)) rest) ≡ true → x ≤ c
    among true c is' e = let same : c ≡ x = eqb-true c x (sym (at-is c x) ∙ is') in omega (arith, same)
    among false c is' e = among-greater x c rest greater e
