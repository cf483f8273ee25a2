-- Whose blocks a list of held blocks has.
use Rattle.std.specs.Prelude.{◌≡◌, ◌==◌, ◌&&◌, ◌||◌, ◌⊎◌, nat_lt, ℕ, ◌+◌, ◌-◌, ◌*◌, ◌/◌, Bool, true, false, List, [], ◌∷◌, ◌++◌, Some, filter, length, take, drop}
use Rattle.std.specs.List.{list_any}
use Rattle.std.proofs.Common.{refl, ap, sym, ◌∙◌, cond, inl, inr}
use Rattle.std.proofs.lemmas.Bool.{eqb-true, cases_Bool, or_left, or_right, or_cases, false≢true, eq-eqb}
use Rattle.xor_buffers.specs.declared.held.HeldBlocks.{HeldBlocks}
use Rattle.xor_buffers.specs.Held.{has_owner, holds_rows, rest_of, take_rows, rows_held, with_owner, owners_of}

-- owners of parts of what was held
pub has_owner-joined : (c : ℕ) (xs ys : List HeldBlocks) → has_owner c (xs ++ ys) ≡ (has_owner c xs || has_owner c ys)
has_owner-joined c [] ys = refl
has_owner-joined c (h ∷ hs) ys = ap (λ b. (h.owner == c) || b) (has_owner-joined c hs ys) ∙ or_assoc (h.owner == c) (has_owner c hs) (has_owner c ys)
  where
    or_assoc : (x y z : Bool) → (x || (y || z)) ≡ (x || y || z)
    or_assoc true y z = refl
    or_assoc false y z = refl

rest-owner : (c block row len : ℕ) (h : HeldBlocks) → has_owner c (rest_of block row len h) ≡ true → (h.owner == c) ≡ true
rest-owner c block row len h p = parts (row == h.row) ((row - h.row) * block + len == length h.bytes) p
  where
    front : HeldBlocks
    front = record { owner = h.owner; row = h.row; bytes = take ((row - h.row) * block) h.bytes }

    back : HeldBlocks
    back = record { owner = h.owner; row = row + len / block; bytes = drop ((row - h.row) * block + len) h.bytes }

    one : (b : Bool) → (b || false) ≡ true → b ≡ true
    one true q = q
    one false q = q

    two : (b : Bool) → (b || (b || false)) ≡ true → b ≡ true
    two true q = refl
    two false q = q

    parts : (x y : Bool) → has_owner c (cond x [] (front ∷ []) ++ cond y [] (back ∷ [])) ≡ true → (h.owner == c) ≡ true
    parts true true q = absurd (false≢true q)
    parts true false q = one (h.owner == c) q
    parts false true q = one (h.owner == c) q
    parts false false q = two (h.owner == c) q

pub taken-owner : (c block row len : ℕ) (hs : List HeldBlocks) → has_owner c (take_rows block row len hs) ≡ true → has_owner c hs ≡ true
taken-owner c block row len [] p = p
taken-owner c block row len (h ∷ hs) p = choose (holds_rows block row len h) (λ q. taken-owner c block row len hs q) p
  where
    choose : (b : Bool) → (has_owner c (take_rows block row len hs) ≡ true → has_owner c hs ≡ true) →
        has_owner c (cond b (rest_of block row len h ++ hs) (h ∷ take_rows block row len hs)) ≡ true → has_owner c (h ∷ hs) ≡ true
    choose true older q = elim (or_cases (has_owner c (rest_of block row len h)) (has_owner c hs) (sym (has_owner-joined c (rest_of block row len h) hs) ∙ q)) [
      | inl part ↦ or_left (h.owner == c) (has_owner c hs) (rest-owner c block row len h part)
      | inr rest ↦ or_right (h.owner == c) (has_owner c hs) rest
    ]
    choose false older q = elim (or_cases (h.owner == c) (has_owner c (take_rows block row len hs)) q) [
      | inl this ↦ or_left (h.owner == c) (has_owner c hs) this
      | inr rest ↦ or_right (h.owner == c) (has_owner c hs) (older rest)
    ]

pub kept-owner : (c : ℕ) (keeps : HeldBlocks → Bool) (hs : List HeldBlocks) → has_owner c (filter keeps hs) ≡ true → has_owner c hs ≡ true
kept-owner c keeps [] p = p
kept-owner c keeps (h ∷ hs) p = choose (keeps h) (λ q. kept-owner c keeps hs q) p
  where
    choose : (b : Bool) → (has_owner c (filter keeps hs) ≡ true → has_owner c hs ≡ true) →
        has_owner c (cond b (h ∷ filter keeps hs) (filter keeps hs)) ≡ true → has_owner c (h ∷ hs) ≡ true
    choose true older q = elim (or_cases (h.owner == c) (has_owner c (filter keeps hs)) q) [
      | inl this ↦ or_left (h.owner == c) (has_owner c hs) this
      | inr rest ↦ or_right (h.owner == c) (has_owner c hs) (older rest)
    ]
    choose false older q = or_right (h.owner == c) (has_owner c hs) (older q)

pub found-owner : (block c row len : ℕ) (bytes : List ℕ) (hs : List HeldBlocks) → rows_held block c row len hs ≡ Some bytes → has_owner c hs ≡ true
found-owner block c row len bytes [] p = absurd cc
found-owner block c row len bytes (h ∷ hs) p = elim (cases_Bool (h.owner == c)) [
  | inl this ↦ or_left (h.owner == c) (has_owner c hs) this
  | inr other ↦ or_right (h.owner == c) (has_owner c hs)
      (found-owner block c row len bytes hs
      (sym (ap (λ b. cond (b && holds_rows block row len h) (Some (take len (drop ((row - h.row) * block) h.bytes))) (rows_held block c row len hs)) other) ∙ p))
]

-- the owners that a loss names are those of the held blocks
with-owner : (c x : ℕ) (xs : List ℕ) → list_any (λ y. y == c) (with_owner x xs) ≡ true → ((x == c) || list_any (λ y. y == c) xs) ≡ true
with-owner c x [] h = h
with-owner c x (y ∷ ys) h = first (nat_lt x y) (x == y) (λ q. with-owner c x ys q) h
  where
    shift : (a b d : Bool) → (b ≡ true) ⊎ ((a || d) ≡ true) → (a || (b || d)) ≡ true
    shift true b d q = refl
    shift false true d q = refl
    shift false false d (inl q) = absurd (false≢true q)
    shift false false d (inr q) = q

    first : (l m : Bool) → (list_any (λ z. z == c) (with_owner x ys) ≡ true → ((x == c) || list_any (λ z. z == c) ys) ≡ true) →
        list_any (λ z. z == c) (cond l (x ∷ y ∷ ys) (cond m (y ∷ ys) (y ∷ with_owner x ys))) ≡ true → ((x == c) || list_any (λ z. z == c) (y ∷ ys)) ≡ true
    first true m older q = q
    first false true older q = or_right (x == c) (list_any (λ z. z == c) (y ∷ ys)) q
    first false false older q = elim (or_cases (y == c) (list_any (λ z. z == c) (with_owner x ys)) q) [
      | inl this ↦ shift (x == c) (y == c) (list_any (λ z. z == c) ys) (inl this)
      | inr rest ↦ shift (x == c) (y == c) (list_any (λ z. z == c) ys) (inr (older rest))
    ]

pub named-owner : (c : ℕ) (hs : List HeldBlocks) → list_any (λ x. x == c) (owners_of hs) ≡ true → has_owner c hs ≡ true
named-owner c [] h = h
named-owner c (x ∷ hs) h = elim (or_cases (x.owner == c) (list_any (λ y. y == c) (owners_of hs)) (with-owner c x.owner (owners_of hs) h)) [
  | inl this ↦ or_left (x.owner == c) (has_owner c hs) this
  | inr rest ↦ or_right (x.owner == c) (has_owner c hs) (named-owner c hs rest)
]

in-owners : (c x : ℕ) (xs : List ℕ) → ((x == c) || list_any (λ y. y == c) xs) ≡ true → list_any (λ y. y == c) (with_owner x xs) ≡ true
in-owners c x [] h = h
in-owners c x (y ∷ ys) h = first (nat_lt x y) (x == y) refl (λ q. in-owners c x ys q)
  where
    first : (l m : Bool) → (x == y) ≡ m → (((x == c) || list_any (λ z. z == c) ys) ≡ true → list_any (λ z. z == c) (with_owner x ys) ≡ true) →
        list_any (λ z. z == c) (cond l (x ∷ y ∷ ys) (cond m (y ∷ ys) (y ∷ with_owner x ys))) ≡ true
    first true m e rec = h
    first false true e rec = elim (or_cases (x == c) ((y == c) || list_any (λ z. z == c) ys) h) [
      | inl this ↦ or_left (y == c) (list_any (λ z. z == c) ys) (eq-eqb y c (sym (eqb-true x y e) ∙ eqb-true x c this))
      | inr rest ↦ rest
    ]
    first false false e rec = elim (or_cases (x == c) ((y == c) || list_any (λ z. z == c) ys) h) [
      | inl this ↦ or_right (y == c) (list_any (λ z. z == c) (with_owner x ys)) (rec (or_left (x == c) (list_any (λ z. z == c) ys) this))
      | inr rest ↦ elim (or_cases (y == c) (list_any (λ z. z == c) ys) rest) [
        | inl that ↦ or_left (y == c) (list_any (λ z. z == c) (with_owner x ys)) that
        | inr last ↦ or_right (y == c) (list_any (λ z. z == c) (with_owner x ys)) (rec (or_right (x == c) (list_any (λ z. z == c) ys) last))
      ]
    ]

pub owner-named : (c : ℕ) (hs : List HeldBlocks) → has_owner c hs ≡ true → list_any (λ x. x == c) (owners_of hs) ≡ true
owner-named c [] h = h
owner-named c (x ∷ hs) h = in-owners c x.owner (owners_of hs) (elim (or_cases (x.owner == c) (has_owner c hs) h) [
  | inl this ↦ or_left (x.owner == c) (list_any (λ y. y == c) (owners_of hs)) this
  | inr rest ↦ or_right (x.owner == c) (list_any (λ y. y == c) (owners_of hs)) (owner-named c hs rest)
])
