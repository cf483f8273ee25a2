-- The pieces of a run of blocks are that run.
use Rattle.std.proofs.Common.{◌≡◌, ℕ, zero, suc, ◌+◌, ◌-◌, ◌≤◌, ◌⊎◌, inl, inr, min, List, [], ◌∷◌, ◌++◌, ap, sym, ◌∙◌, refl, arith}
use Rattle.std.specs.Prelude.{flat_map}
use Rattle.std.specs.List.{AllByRecursion, range_with_len}
use Rattle.std.proofs.lemmas.Bool.{cases_lt}
use Rattle.std.proofs.lemmas.List.{append_assoc}
use Rattle.stripe_layout.specs.declared.geometry.Geometry.{Geometry}
use Rattle.stripe_layout.specs.declared.pieces.Piece.{Piece}
use Rattle.stripe_layout.specs.Layout.{IsArray, capacity_of, room_in_unit}
use Rattle.stripe_layout.specs.Pieces.{piece_of, first_count, cut, pieces_of}
use Rattle.stripe_layout.specs.Laws.{blocks_of_piece, IsInOneUnit, IsLongest}
use Rattle.stripe_layout.proofs.PlaceRuns.{some-room, place-behind}

-- ---- the first piece

pub some-first : (g : Geometry) (max lba count : ℕ) → IsArray g → 1 ≤ max → 1 ≤ count → lba + count ≤ capacity_of g → 1 ≤ first_count g max lba count
some-first g max lba count is some more within = omega (arith, some-room g lba is (omega (arith, more, within)))

pub most-first : (g : Geometry) (max lba count : ℕ) → first_count g max lba count ≤ count
most-first g max lba count = omega arith

-- ---- a property of each piece

-- what is left is within the capacity
behind : (lba first others room : ℕ) → first ≤ suc others → lba + suc others ≤ room → (lba + first) + (suc others - first) ≤ room
behind lba first others room le within = omega arith

fewer : (first others left : ℕ) → 1 ≤ first → suc others ≤ suc left → suc others - first ≤ left
fewer first others left some le = omega arith

pub each-piece : (P : Piece → Type 0) (g : Geometry) (max end left lba count : ℕ) → IsArray g → 1 ≤ max → end ≤ capacity_of g → lba + count ≡ end →
    ((at more : ℕ) → 1 ≤ more → at + more ≡ end → P (piece_of g at (first_count g max at more))) → AllByRecursion P (cut g max left lba count)
each-piece P g max end zero lba count is some within e each = tt
each-piece P g max end (suc left) lba zero is some within e each = tt
each-piece P g max end (suc left) lba (suc others) is some within e each = (
  each lba (suc others) (omega arith) e,
  each-piece P g max end left (lba + first_count g max lba (suc others)) (suc others - first_count g max lba (suc others)) is some within
      (omega (arith, e, most-first g max lba (suc others))) each,
)

-- the pieces of as many blocks don't hang on how many of them there may be
pub cut-enough : (g : Geometry) (max a b lba count : ℕ) → IsArray g → 1 ≤ max → lba + count ≤ capacity_of g → count ≤ a → count ≤ b →
    cut g max a lba count ≡ cut g max b lba count
cut-enough g max zero zero lba count is some within h k = refl
cut-enough g max zero (suc b) lba zero is some within h k = refl
cut-enough g max zero (suc b) lba (suc others) is some within h k = absurd (omega (arith, h))
cut-enough g max (suc a) zero lba zero is some within h k = refl
cut-enough g max (suc a) zero lba (suc others) is some within h k = absurd (omega (arith, k))
cut-enough g max (suc a) (suc b) lba zero is some within h k = refl
cut-enough g max (suc a) (suc b) lba (suc others) is some within h k =
    let first = first_count g max lba (suc others) in
    let one : 1 ≤ first = some-first g max lba (suc others) is some (omega arith) within in
    ap (λ (rest : List Piece). piece_of g lba first ∷ rest)
    (cut-enough g max a b (lba + first) (suc others - first) is some
    (behind lba first others (capacity_of g) (most-first g max lba (suc others)) within)
    (fewer first others a one h) (fewer first others b one k))

-- the pieces of some blocks are the first and those of what is left
pub pieces-first : (g : Geometry) (max lba count : ℕ) → IsArray g → 1 ≤ max → 1 ≤ count → lba + count ≤ capacity_of g →
    pieces_of g max lba count ≡ piece_of g lba (first_count g max lba count) ∷ pieces_of g max (lba + first_count g max lba count) (count - first_count g max lba count)
pieces-first g max lba zero is some more within = absurd (omega (arith, more))
pieces-first g max lba (suc others) is some more within =
    let first = first_count g max lba (suc others) in
    let one : 1 ≤ first = some-first g max lba (suc others) is some more within in
    ap (λ (rest : List Piece). piece_of g lba first ∷ rest)
    (cut-enough g max others (suc others - first) (lba + first) (suc others - first) is some
    (behind lba first others (capacity_of g) (most-first g max lba (suc others)) within)
    (fewer first others others one (omega arith)) (omega arith))

-- ---- joined they are the run

range-split : (a m n : ℕ) → range_with_len a m ++ range_with_len (a + m) n ≡ range_with_len a (m + n)
range-split a zero n = ap (λ x. range_with_len x n) (none-behind a) ∙ ap (λ x. range_with_len a x) (none-longer n)
  where
    none-behind : (a : ℕ) → a + 0 ≡ a
    none-behind a = omega arith

    none-longer : (n : ℕ) → n ≡ 0 + n
    none-longer n = omega arith
range-split a (suc m) n =
    ap (λ (xs : List ℕ). a ∷ xs)
    (ap (λ x. range_with_len (a + 1) m ++ range_with_len x n) (behind-one a m) ∙ range-split (a + 1) m n)
    ∙ ap (λ x. range_with_len a x) (one-longer m n)
  where
    behind-one : (a m : ℕ) → a + suc m ≡ (a + 1) + m
    behind-one a m = omega arith

    one-longer : (m n : ℕ) → suc (m + n) ≡ suc m + n
    one-longer m n = omega arith

cut-joined : (g : Geometry) (max left lba count : ℕ) → IsArray g → 1 ≤ max → lba + count ≤ capacity_of g → count ≤ left →
    flat_map blocks_of_piece (cut g max left lba count) ≡ range_with_len lba count
cut-joined g max zero lba zero is some within h = refl
cut-joined g max zero lba (suc others) is some within h = absurd (omega (arith, h))
cut-joined g max (suc left) lba zero is some within h = refl
cut-joined g max (suc left) lba (suc others) is some within h =
    let first = first_count g max lba (suc others) in
    let one : 1 ≤ first = some-first g max lba (suc others) is some (omega arith) within in
    ap (λ (rest : List ℕ). range_with_len lba first ++ rest)
    (cut-joined g max left (lba + first) (suc others - first) is some
    (behind lba first others (capacity_of g) (most-first g max lba (suc others)) within) (fewer first others left one h))
    ∙ range-split lba first (suc others - first)
    ∙ ap (λ x. range_with_len lba x) (whole first others (most-first g max lba (suc others)))
  where
    whole : (first others : ℕ) → first ≤ suc others → first + (suc others - first) ≡ suc others
    whole first others le = omega arith

pub joined : (g : Geometry) (max lba count : ℕ) → IsArray g → 1 ≤ max → lba + count ≤ capacity_of g →
    flat_map blocks_of_piece (pieces_of g max lba count) ≡ range_with_len lba count
joined g max lba count is some within = cut-joined g max count lba count is some within (omega arith)

-- ---- each in one unit

pub in-units : (g : Geometry) (max lba count : ℕ) → IsArray g → 1 ≤ max → lba + count ≤ capacity_of g →
    AllByRecursion (λ (piece : Piece). (1 ≤ piece.count) × IsInOneUnit g piece) (pieces_of g max lba count)
in-units g max lba count is some within =
    each-piece (λ (piece : Piece). (1 ≤ piece.count) × IsInOneUnit g piece) g max (lba + count) count lba count is some within refl
    (λ at more one e. (
      some-first g max at more is some one (omega (arith, e, within)),
      λ j lt. place-behind g at j is (omega (arith, one, e, within)) (omega (arith, lt)),
    ))

-- ---- each as long as may be

longest-of : (room max more : ℕ) → (min room (min max more) ≡ room) ⊎ ((min room (min max more) ≡ max) ⊎ (min room (min max more) ≡ more))
longest-of room max more = elim (cases_lt max more) [
  | inl lt ↦ elim (cases_lt room max) [ inl l ↦ inl (omega (arith, lt, l)) | inr r ↦ inr (inl (omega (arith, lt, r))) ]
  | inr le ↦ elim (cases_lt room more) [ inl l ↦ inl (omega (arith, le, l)) | inr r ↦ inr (inr (omega (arith, le, r))) ]
]

pub longest : (g : Geometry) (max lba count : ℕ) → IsArray g → 1 ≤ max → lba + count ≤ capacity_of g →
    AllByRecursion (IsLongest g max (lba + count)) (pieces_of g max lba count)
longest g max lba count is some within =
    each-piece (IsLongest g max (lba + count)) g max (lba + count) count lba count is some within refl
    (λ at more one e. record {
      within_unit = omega arith;
      within_max = omega arith;
      within_run = omega (arith, e);
      longest = ends at more e (longest-of (room_in_unit g at) max more);
    })
  where
    ends : (at more : ℕ) → at + more ≡ lba + count →
        (first_count g max at more ≡ room_in_unit g at) ⊎ ((first_count g max at more ≡ max) ⊎ (first_count g max at more ≡ more)) →
        (first_count g max at more ≡ room_in_unit g at) ⊎ ((first_count g max at more ≡ max) ⊎ (at + first_count g max at more ≡ lba + count))
    ends at more e (inl room) = inl room
    ends at more e (inr (inl most)) = inr (inl most)
    ends at more e (inr (inr all)) = inr (inr (omega (arith, all, e)))

-- one piece more is cut
pub cut-further : (g : Geometry) (max lba count : ℕ) (before after : List Piece) (piece : Piece) → IsArray g → 1 ≤ max → 1 ≤ count → lba + count ≤ capacity_of g →
    piece ≡ piece_of g lba (first_count g max lba count) → after ≡ before ++ piece ∷ [] →
    after ++ pieces_of g max (lba + piece.count) (count - piece.count) ≡ before ++ pieces_of g max lba count
cut-further g max lba count before after piece is some more within e add =
    ap (λ (xs : List Piece). xs ++ pieces_of g max (lba + piece.count) (count - piece.count)) add
    ∙ append_assoc before (piece ∷ []) (pieces_of g max (lba + piece.count) (count - piece.count))
    ∙ ap (λ (xs : List Piece). before ++ xs)
    (ap (λ (p : Piece). p ∷ pieces_of g max (lba + p.count) (count - p.count)) e ∙ sym (pieces-first g max lba count is some more within))
