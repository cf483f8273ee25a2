-- A map's entries, read as listings.
use Rattle.std.proofs.Common.{◌≡◌, ◌==◌, inl, inr, ℕ, Bool, false, cond, List, [], ◌∷◌, Option, Some, None, refl, ap, sym, ◌∙◌, arith}
use Rattle.std.proofs.lemmas.Bool.{cases_order, eq-eqb, ne_eqb, le-ltb, lt-ltb}
use Rattle.std.specs.Ordering.{nat_cmp, is_eq}
use Rattle.std.specs.Map.{lookup, remove_entry}
use Rattle.std.specs.BTreeMap.{is_at, insert_entry}
use Rattle.dirty_list.specs.Listings.{command_of, put_in, without}

-- two numbers compare as equal where they are one
pub tied-numbers : (a b : ℕ) → is_eq (nat_cmp a b) ≡ (a == b)
tied-numbers a b = elim (cases_order a b) [
  | inl e ↦ rw (le-ltb a b (omega arith), eq-eqb a b e) refl
  | inr (inl l) ↦ rw (lt-ltb a b l, ne_eqb a b (λ e. omega (arith, e, l))) refl
  | inr (inr g) ↦ rw (le-ltb a b (omega arith), ne_eqb a b (λ e. omega (arith, e, g))) refl
]

pub looked-up : (stripe : ℕ) (es : List (ℕ × ℕ)) → lookup (is_at (nat_cmp stripe)) es ≡ command_of stripe es
looked-up stripe [] = refl
looked-up stripe (e ∷ es) =
    ap (λ (b : Bool). cond b (Some e.1) (lookup (is_at (nat_cmp stripe)) es)) (tied-numbers stripe e.0)
    ∙ ap (λ (o : Option ℕ). cond (stripe == e.0) (Some e.1) o) (looked-up stripe es)

pub removed : (stripe : ℕ) (es : List (ℕ × ℕ)) → remove_entry (is_at (nat_cmp stripe)) es ≡ without stripe es
removed stripe [] = refl
removed stripe (e ∷ es) =
    ap (λ (b : Bool). cond b es (e ∷ remove_entry (is_at (nat_cmp stripe)) es)) (tied-numbers stripe e.0)
    ∙ ap (λ (l : List (ℕ × ℕ)). cond (stripe == e.0) es (e ∷ l)) (removed stripe es)

-- a stripe that isn't listed goes to its place
pub inserted : (stripe command : ℕ) (es : List (ℕ × ℕ)) → command_of stripe es ≡ None → insert_entry nat_cmp es stripe command ≡ put_in stripe command es
inserted stripe command [] none = refl
inserted stripe command (e ∷ es) none = elim (cases_order stripe e.0) [
  | inl same ↦ absurd (listed same)
  | inr (inl less) ↦ rw (lt-ltb stripe e.0 less) refl
  | inr (inr more) ↦
      let apart : (stripe == e.0) ≡ false = ne_eqb stripe e.0 (λ same. omega (arith, same, more)) in
      rw (le-ltb stripe e.0 (omega arith), apart)
      (ap (λ l. e ∷ l) (inserted stripe command es (sym (ap (λ (b : Bool). cond b (Some e.1) (command_of stripe es)) apart) ∙ none)))
]
  where
    listed : stripe ≡ e.0 → ⊥
    listed same = some-none (sym (ap (λ (b : Bool). cond b (Some e.1) (command_of stripe es)) (eq-eqb stripe e.0 same)) ∙ none)
      where
        some-none : Some e.1 ≡ None → ⊥
        some-none q = cc

-- what one key of a map gets, by stripe
pub updated : (stripe s : ℕ) (w : Option ℕ) (before after : List (ℕ × ℕ)) →
    lookup (is_at (nat_cmp s)) after ≡ cond (is_at (nat_cmp stripe) s) w (lookup (is_at (nat_cmp s)) before) → command_of s after ≡ cond (stripe == s) w (command_of s before)
updated stripe s w before after h =
    sym (looked-up s after) ∙ h ∙ ap (λ (b : Bool). cond b w (lookup (is_at (nat_cmp s)) before)) (tied-numbers stripe s)
    ∙ ap (λ (o : Option ℕ). cond (stripe == s) w o) (looked-up s before)
