-- Where keys rise, the first that isn't below a number is that number's, if any is.
use Rattle.std.proofs.Common.{◌≡◌, ◌==◌, ℕ, zero, suc, ◌+◌, ◌<◌, ◌≤◌, Bool, true, false, cond, List, [], ◌∷◌, ◌++◌, length, Option, Some, None, refl, ap, sym, ◌∙◌, ⊎_elim, arith, slice_get, slice_index_or, All, inl, inr, ◌-◌, ◌⊎◌}
use Rattle.std.proofs.lemmas.Bool.{cases_eq, cases_order, eq-eqb, ne_eqb, ltb-true, ltb-false}
use Rattle.std.proofs.lemmas.List.Elements.{All-get_or, All-push, All-tail, All-weaker}
use Rattle.std.proofs.lemmas.List.Sorted.{IsNonDecreasingBy-push}
use Rattle.std.specs.Prelude.{nat_lt}
use Rattle.std.specs.List.Sorted.{IsNonDecreasingBy, IsPartitionPoint}
use Rattle.std.specs.Option.{option_or}
use Rattle.journal_index.specs.declared.rising.KeyedPlace.{KeyedPlace}
use Rattle.journal_index.specs.Rising.{place_among, place_for}

abbrev pub key_in : KeyedPlace → ℕ
key_in x = x.key

-- a choice by whether two numbers are one
same_key : {A : Type 0} (a b : ℕ) (x y : A) → a ≡ b → cond (a == b) x y ≡ x
same_key a b x y e = ap (λ t. cond t x y) (eq-eqb a b e)

other_key : {A : Type 0} (a b : ℕ) (x y : A) → (a ≡ b → ⊥) → cond (a == b) x y ≡ y
other_key a b x y h = ap (λ t. cond t x y) (ne_eqb a b h)

-- no place where all keys are greater
none_above : (k : ℕ) (xs : List KeyedPlace) → ((j : ℕ) (d : KeyedPlace) → j < length xs → k < key_in (slice_index_or xs j d)) → place_among xs k ≡ None
none_above k [] h = refl
none_above k (x ∷ xs) h =
    let first : k < x.key = h 0 x (omega arith) in
    other_key x.key k (Some x.place) (place_among xs k) (λ e. omega (arith, first, e))
    ∙ none_above k xs (λ j d lt. h (suc j) d (omega (arith, lt)))

-- where a search for a key comes to, stands that key, if it stands anywhere
pub found_at : (k i : ℕ) (xs : List KeyedPlace) → IsNonDecreasingBy key_in xs →
    IsPartitionPoint (λ y. nat_lt (key_in y) k ≡ true) (λ y. nat_lt (key_in y) k ≡ false) xs i →
    place_among xs k ≡ place_for k (slice_get xs i)
found_at k i [] up point = refl
found_at k zero (x ∷ xs) up point = ⊎_elim same apart (cases_order x.key k)
  where
    same : x.key ≡ k → place_among (x ∷ xs) k ≡ place_for k (Some x)
    same e = same_key x.key k (Some x.place) (place_among xs k) e ∙ sym (same_key x.key k (Some x.place) None e)

    above : k < x.key → place_among (x ∷ xs) k ≡ place_for k (Some x)
    above less =
        other_key x.key k (Some x.place) (place_among xs k) (λ e. omega (arith, less, e))
        ∙ none_above k xs (λ j d lt. let risen : x.key ≤ key_in (slice_index_or xs j d) = up 0 (suc j) d (omega arith) (omega (arith, lt)) in omega (arith, risen, less))
        ∙ sym (other_key x.key k (Some x.place) None (λ e. omega (arith, less, e)))

    apart : ((x.key < k) ⊎ (k < x.key)) → place_among (x ∷ xs) k ≡ place_for k (Some x)
    apart = ⊎_elim (λ less. let low : k ≤ x.key = ltb-false x.key k (point.1 0 x (omega arith) (omega arith)) in absurd (omega (arith, less, low))) above
found_at k (suc i) (x ∷ xs) up point =
    let less : x.key < k = ltb-true x.key k (point.0 0 x (omega arith) (omega arith)) in
    other_key x.key k (Some x.place) (place_among xs k) (λ e. omega (arith, less, e))
    ∙ found_at k i xs (λ a b d le lt. up (suc a) (suc b) d (omega (arith, le)) (omega (arith, lt)))
    ((λ j d lo hi. point.0 (suc j) d (omega arith) (omega (arith, hi))), (λ j d lo hi. point.1 (suc j) d (omega (arith, lo)) (omega (arith, hi))))

-- one more key, above all others
among_push : (k bound : ℕ) (xs : List KeyedPlace) (y : KeyedPlace) → All (λ x. key_in x < bound) xs → bound ≤ y.key →
    place_among (xs ++ y ∷ []) k ≡ cond (y.key == k) (Some y.place) (place_among xs k)
among_push k bound [] y below above = refl
among_push k bound (x ∷ xs) y below above =
    ap (λ o. cond (x.key == k) (Some x.place) o) (among_push k bound xs y (All-tail (λ z. key_in z < bound) x xs below) above)
    ∙ swapped (cases_eq x.key k)
  where
    less : x.key < y.key
    less = let low : x.key < bound = All-get_or (λ z. key_in z < bound) (x ∷ xs) 0 x (omega arith) below in omega (arith, low, above)

    swapped : ((x.key ≡ k) ⊎ (x.key ≡ k → ⊥)) →
        cond (x.key == k) (Some x.place) (cond (y.key == k) (Some y.place) (place_among xs k))
        ≡ cond (y.key == k) (Some y.place) (cond (x.key == k) (Some x.place) (place_among xs k))
    swapped (inl e) =
        same_key x.key k (Some x.place) (cond (y.key == k) (Some y.place) (place_among xs k)) e
        ∙ sym (other_key y.key k (Some y.place) (cond (x.key == k) (Some x.place) (place_among xs k)) (λ h. omega (arith, e, h, less))
        ∙ same_key x.key k (Some x.place) (place_among xs k) e)
    swapped (inr h) =
        other_key x.key k (Some x.place) (cond (y.key == k) (Some y.place) (place_among xs k)) h
        ∙ ap (λ o. cond (y.key == k) (Some y.place) o) (sym (other_key x.key k (Some x.place) (place_among xs k) h))

-- what is known of keys, after one that is above all others
pub rising_push : (bound : ℕ) (xs : List KeyedPlace) (y : KeyedPlace) → IsNonDecreasingBy key_in xs → All (λ x. key_in x < bound) xs → bound ≤ y.key →
    IsNonDecreasingBy key_in (xs ++ y ∷ [])
rising_push bound xs y up below above =
    IsNonDecreasingBy-push key_in xs y up (λ d some. let low = All-get_or (λ x. key_in x < bound) xs (length xs - 1) d (omega (arith, some)) below in omega (arith, low, above))

pub below_push : (bound : ℕ) (xs : List KeyedPlace) (y : KeyedPlace) → All (λ x. key_in x < bound) xs → bound ≤ y.key →
    All (λ x. key_in x < y.key + 1) (xs ++ y ∷ [])
below_push bound xs y below above =
    All-push (λ x. key_in x < y.key + 1) xs y
    (All-weaker (λ x. key_in x < bound) (λ x. key_in x < y.key + 1) (λ x low. omega (arith, low, above)) xs below)
    (omega arith)

-- what is kept by keys, once a new key is in the row
pub kept_push : (k bound : ℕ) (others : ℕ → Option ℕ) (xs : List KeyedPlace) (y : KeyedPlace) → others y.key ≡ None → All (λ x. key_in x < bound) xs → bound ≤ y.key →
    option_or (others k) (place_among (xs ++ y ∷ []) k) ≡ cond (y.key == k) (Some y.place) (option_or (others k) (place_among xs k))
kept_push k bound others xs y new below above =
    ap (option_or (others k)) (among_push k bound xs y below above) ∙ pulled (cases_eq y.key k)
  where
    pulled : ((y.key ≡ k) ⊎ (y.key ≡ k → ⊥)) →
        option_or (others k) (cond (y.key == k) (Some y.place) (place_among xs k)) ≡ cond (y.key == k) (Some y.place) (option_or (others k) (place_among xs k))
    pulled (inl e) =
        ap (option_or (others k)) (same_key y.key k (Some y.place) (place_among xs k) e)
        ∙ ap (λ o. option_or o (Some y.place)) (ap others (sym e) ∙ new)
        ∙ sym (same_key y.key k (Some y.place) (option_or (others k) (place_among xs k)) e)
    pulled (inr h) =
        ap (option_or (others k)) (other_key y.key k (Some y.place) (place_among xs k) h)
        ∙ sym (other_key y.key k (Some y.place) (option_or (others k) (place_among xs k)) h)

-- and once it is among the others
pub kept_insert : (b : Bool) (place : ℕ) (after before row : Option ℕ) → after ≡ cond b (Some place) before →
    option_or after row ≡ cond b (Some place) (option_or before row)
kept_insert b place after before row h = ap (λ o. option_or o row) h ∙ pulled b
  where
    pulled : (t : Bool) → option_or (cond t (Some place) before) row ≡ cond t (Some place) (option_or before row)
    pulled true = refl
    pulled false = refl
