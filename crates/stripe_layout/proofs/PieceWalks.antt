-- The piece of a number is the one that stands at that number in the list of all pieces.
use Rattle.std.proofs.Common.{◌≡◌, ℕ, zero, suc, ◌+◌, ◌-◌, ◌*◌, ◌/◌, ◌%◌, ◌<◌, ◌≤◌, ◌⊎◌, min, List, length, get_or, Some, None, refl, sym, ap, arith, ◌∙◌, inl, inr, subst}
use Rattle.std.specs.Prelude.{slice_get}
use Rattle.std.proofs.lemmas.Bool.{cases_lt}
use Rattle.std.proofs.lemmas.Option.{slice_get_within, slice_get-get_or, none-some}
use Rattle.std.proofs.Math.Nat.{add-mul}
use Rattle.std.proofs.lemmas.Nat.{mul-le, div-mul-add, div-add-mod', mod_below}
use Rattle.stripe_layout.specs.declared.geometry.Geometry.{Geometry}
use Rattle.stripe_layout.specs.declared.pieces.Piece.{Piece}
use Rattle.stripe_layout.specs.Layout.{IsArray, capacity_of, room_in_unit}
use Rattle.stripe_layout.specs.Pieces.{piece_of, first_count, cut, pieces_of}
use Rattle.stripe_layout.specs.PieceNumbers.{pieces_in, walk}
use Rattle.stripe_layout.proofs.PlaceRuns.{some-room, room-behind}

-- ---- pieces of one unit

-- one divisor more
div-more : (m n : ℕ) → 0 < m → (n + m) / m ≡ suc (n / m)
div-more m n p = ap (λ x. x / m) split ∙ div-mul-add (suc (n / m)) m (n % m) (mod_below n m p)
  where
    split : n + m ≡ suc (n / m) * m + n % m
    split = omega (arith, div-add-mod' n m)

pub none-in : (m : ℕ) → 0 < m → pieces_in m 0 ≡ 0
none-in m p = ap (λ x. x / m) nothing ∙ div-mul-add 0 m (m - 1) (omega (arith, p))
  where
    nothing : 0 + (m - 1) ≡ 0 * m + (m - 1)
    nothing = omega arith

pub one-in : (m n : ℕ) → 0 < n → n ≤ m → pieces_in m n ≡ 1
one-in m n some le = ap (λ x. x / m) split ∙ div-mul-add 1 m (n - 1) (omega (arith, some, le))
  where
    split : n + (m - 1) ≡ 1 * m + (n - 1)
    split = omega (arith, some, le)

pub more-in : (m n : ℕ) → 0 < m → m ≤ n → pieces_in m n ≡ suc (pieces_in m (n - m))
more-in m n p le = ap (λ x. x / m) split ∙ div-more m ((n - m) + (m - 1)) p
  where
    split : n + (m - 1) ≡ ((n - m) + (m - 1)) + m
    split = omega (arith, le)

-- the pieces of so many blocks hold them all, and each of them some
pub all-in : (m n : ℕ) → 0 < m → n ≤ pieces_in m n * m
all-in m n p = omega (arith, div-add-mod' (n + (m - 1)) m, mod_below (n + (m - 1)) m p)

pub some-of : (m n k : ℕ) → 0 < m → k < pieces_in m n → k * m < n
some-of m n k p h =
    let low : (k + 1) * m ≤ n + (m - 1) = omega (arith, div-add-mod' (n + (m - 1)) m, mul-le (k + 1) m (pieces_in m n) m (omega (arith, h)) (omega arith)) in
    omega (arith, low, p, add-mul k 1 m)

pub past-of : (m n k : ℕ) → 0 < m → pieces_in m n ≤ k → n ≤ k * m
past-of m n k p h = omega (arith, all-in m n p, mul-le (pieces_in m n) m k m h (omega arith))

pub few-in : (m n : ℕ) → 0 < m → pieces_in m n ≤ n
few-in m n p = elim (cases_lt n (pieces_in m n)) [
  | inr le ↦ le
  | inl more ↦ absurd (omega (arith, some-of m n n p more, mul-le n 1 n m (omega arith) (omega (arith, p))))
]

-- ---- a walk from piece to piece

pub walk-rises : (g : Geometry) (max lba n : ℕ) → lba ≤ walk g max lba n
walk-rises g max lba zero = omega arith
walk-rises g max lba (suc n) = omega (arith, walk-rises g max (lba + min (room_in_unit g lba) max) n)

pub walk-on : (g : Geometry) (max lba m n : ℕ) → walk g max lba (m + n) ≡ walk g max (walk g max lba m) n
walk-on g max lba zero n = ap (walk g max lba) (none n)
  where
    none : (n : ℕ) → 0 + n ≡ n
    none n = omega arith
walk-on g max lba (suc m) n = ap (walk g max lba) (one m n) ∙ walk-on g max (lba + min (room_in_unit g lba) max) m n
  where
    one : (m n : ℕ) → suc m + n ≡ suc (m + n)
    one m n = omega arith

-- the piece of a number is there where the walk to it ends within the run
pub data Numbered (g : Geometry) (max lba count n : ℕ) (list : List Piece) : Type 0 where
  There : (at : ℕ) → at ≡ walk g max lba n → at < lba + count → slice_get list n ≡ Some (piece_of g at (first_count g max at (lba + count - at))) → Numbered g max lba count n list
  Past : lba + count ≤ walk g max lba n → slice_get list n ≡ None → Numbered g max lba count n list

pub piece-numbered : (g : Geometry) (max left lba count n : ℕ) → IsArray g → 1 ≤ max → lba + count ≤ capacity_of g → count ≤ left → Numbered g max lba count n (cut g max left lba count)
piece-numbered g max zero lba count n is some within le = Past (omega (arith, le, walk-rises g max lba n)) refl
piece-numbered g max (suc left) lba zero n is some within le = Past (omega (arith, walk-rises g max lba n)) refl
piece-numbered g max (suc left) lba (suc others) zero is some within le =
    There lba refl (omega arith) (ap (λ x. Some (piece_of g lba (first_count g max lba x))) (whole lba others))
  where
    whole : (lba others : ℕ) → suc others ≡ lba + suc others - lba
    whole lba others = omega arith
piece-numbered g max (suc left) lba (suc others) (suc n) is some within le =
    by_size (cases_lt (suc others) (min (room_in_unit g lba) max))
    (λ fits less. piece-numbered g max left (lba + first_count g max lba (suc others)) (suc others - first_count g max lba (suc others)) n is some fits less)
  where
    first : ℕ
    first = first_count g max lba (suc others)

    one : 1 ≤ first
    one = omega (arith, some, some-room g lba is (omega (arith, within)))

    by_rest : (step rest : ℕ) → first ≡ step → first + rest ≡ suc others → suc others - first ≡ rest → step ≡ min (room_in_unit g lba) max →
        Numbered g max (lba + first) rest n (cut g max left (lba + first) rest) → Numbered g max lba (suc others) (suc n) (cut g max (suc left) lba (suc others))
    by_rest step rest e whole left_is f (There at w lt found) =
        There at (w ∙ ap (λ x. walk g max (lba + x) n) (e ∙ f)) (omega (arith, lt, whole))
        (ap (λ x. slice_get (cut g max left (lba + first) x) n) left_is ∙ found
        ∙ ap (λ x. Some (piece_of g at (first_count g max at (x - at)))) (omega (arith, whole)))
    by_rest step rest e whole left_is f (Past done found) =
        Past (subst (λ x. lba + suc others ≤ walk g max (lba + x) n) (e ∙ f) (omega (arith, done, whole)))
        (ap (λ x. slice_get (cut g max left (lba + first) x) n) left_is ∙ found)

    nothing-left : suc others < min (room_in_unit g lba) max → slice_get (cut g max left (lba + first) (suc others - first)) n ≡ None
    nothing-left short = ap (λ x. slice_get (cut g max left (lba + first) x) n) (omega (arith, short)) ∙ cut-nothing left (lba + first) n
      where
        cut-nothing : (left at n : ℕ) → slice_get (cut g max left at 0) n ≡ None
        cut-nothing zero at n = refl
        cut-nothing (suc left) at n = refl

    by_size : (suc others < min (room_in_unit g lba) max) ⊎ (min (room_in_unit g lba) max ≤ suc others) →
        (lba + first + (suc others - first) ≤ capacity_of g → suc others - first ≤ left → Numbered g max (lba + first) (suc others - first) n (cut g max left (lba + first) (suc others - first))) →
        Numbered g max lba (suc others) (suc n) (cut g max (suc left) lba (suc others))
    by_size (inl short) rest = Past (omega (arith, short, walk-rises g max (lba + min (room_in_unit g lba) max) n)) (nothing-left short)
    by_size (inr enough) rest =
        by_rest first (suc others - first) refl (omega arith) refl (omega (arith, enough)) (rest (omega (arith, within)) (omega (arith, le, one)))

-- ---- within the unit that a run begins in

pub walk-within : (g : Geometry) (max lba n : ℕ) → IsArray g → 1 ≤ max → lba < capacity_of g → n * max < room_in_unit g lba → walk g max lba n ≡ lba + n * max
walk-within g max lba zero is some h k = omega arith
walk-within g max lba (suc n) is some h k =
    let step : min (room_in_unit g lba) max ≡ max = omega (arith, k, mul-le 1 max (suc n) max (omega arith) (omega arith)) in
    let longer : suc n * max ≡ max + n * max = omega (arith, add-mul 1 n max) in
    let behind = room-behind g lba max is h (omega (arith, k, longer)) in
    ap (λ x. walk g max (lba + x) n) step
    ∙ walk-within g max (lba + max) n is some behind.0 (omega (arith, behind.1, k, longer))
    ∙ omega (arith, longer)

pub walk-past : (g : Geometry) (max lba k n : ℕ) → IsArray g → 1 ≤ max → lba < capacity_of g → k ≡ pieces_in max (room_in_unit g lba) →
    walk g max lba (k + n) ≡ walk g max (lba + room_in_unit g lba) n
walk-past g max lba zero n is some h e = absurd (omega (arith, past-of max (room_in_unit g lba) 0 some (omega (arith, e)), some-room g lba is h))
walk-past g max lba (suc k) n is some h e = by_size (cases_lt max (room_in_unit g lba)) (λ below same. walk-past g max (lba + max) k n is some below same)
  where
    longer : suc k + n ≡ suc (k + n)
    longer = omega arith

    by_size : (max < room_in_unit g lba) ⊎ (room_in_unit g lba ≤ max) →
        (lba + max < capacity_of g → k ≡ pieces_in max (room_in_unit g (lba + max)) → walk g max (lba + max) (k + n) ≡ walk g max (lba + max + room_in_unit g (lba + max)) n) →
        walk g max lba (suc k + n) ≡ walk g max (lba + room_in_unit g lba) n
    by_size (inr all) rest =
        let one : pieces_in max (room_in_unit g lba) ≡ 1 = one-in max (room_in_unit g lba) (some-room g lba is h) all in
        let step : min (room_in_unit g lba) max ≡ room_in_unit g lba = omega (arith, all) in
        let none : k + n ≡ n = omega (arith, e, one) in
        ap (walk g max lba) longer ∙ ap (λ x. walk g max (lba + x) (k + n)) step ∙ ap (walk g max (lba + room_in_unit g lba)) none
    by_size (inl part) rest =
        let behind = room-behind g lba max is h part in
        let step : min (room_in_unit g lba) max ≡ max = omega (arith, part) in
        let same : k ≡ pieces_in max (room_in_unit g (lba + max)) =
        omega (arith, e, more-in max (room_in_unit g lba) some (omega (arith, part)), ap (pieces_in max) behind.1) in
        let end : lba + max + room_in_unit g (lba + max) ≡ lba + room_in_unit g lba = omega (arith, behind.1, part) in
        ap (walk g max lba) longer
        ∙ ap (λ x. walk g max (lba + x) (k + n)) step
        ∙ rest behind.0 same
        ∙ ap (λ x. walk g max x n) end

-- ---- how many there are

pub count-is : (g : Geometry) (max lba count n : ℕ) → IsArray g → 1 ≤ max → lba + count ≤ capacity_of g → walk g max lba n < lba + count →
    lba + count ≤ walk g max lba (n + 1) → n + 1 ≡ length (pieces_of g max lba count)
count-is g max lba count n is some within low high =
    by_last (piece-numbered g max count lba count n is some within (omega arith)) (piece-numbered g max count lba count (n + 1) is some within (omega arith))
  where
    list : List Piece
    list = pieces_of g max lba count

    ends : slice_get list (n + 1) ≡ None → n < length list → n + 1 ≡ length list
    ends e more = elim (cases_lt (n + 1) (length list)) [
      | inl less ↦ absurd (none-some (get_or list (n + 1) (piece_of g lba count)) (sym e ∙ slice_get-get_or list (n + 1) (piece_of g lba count) less))
      | inr all ↦ omega (arith, all, more)
    ]

    by_last : Numbered g max lba count n list → Numbered g max lba count (n + 1) list → n + 1 ≡ length list
    by_last (There at w lt found) (Past done none) = ends none (slice_get_within list n (piece_of g at (first_count g max at (lba + count - at))) found)
    by_last (There at w lt found) (There at2 w2 lt2 found2) = absurd (omega (arith, w2, lt2, high))
    by_last (Past done none) _ = absurd (omega (arith, done, low))
