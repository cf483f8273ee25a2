-- What the code that finds a piece by its number answers.
use Rattle.std.proofs.Common.{◌≡◌, ℕ, zero, suc, ◌+◌, ◌-◌, ◌*◌, ◌/◌, ◌%◌, ◌<◌, ◌≤◌, ◌⊎◌, min, length, Some, None, refl, sym, ap, arith, ◌∙◌, inl, inr, subst}
use Rattle.std.specs.Prelude.{slice_get}
use Rattle.std.proofs.lemmas.Bool.{cases_lt}
use Rattle.stripe_layout.specs.declared.geometry.Geometry.{Geometry}
use Rattle.stripe_layout.specs.Layout.{IsArray, IsRowOf, capacity_of, first_row, unit_rows, stripe_of, unit_of, offset_in_unit, room_in_unit}
use Rattle.stripe_layout.specs.Pieces.{piece_of, first_count, cut, pieces_of}
use Rattle.stripe_layout.specs.PieceNumbers.{pieces_in, in_pieces, number_of, begin_of, walk}
use Rattle.stripe_layout.proofs.StripeLaws.{most-unit_rows, most-greatest}
use Rattle.stripe_layout.proofs.PlaceRuns.{room-below}
use Rattle.stripe_layout.proofs.PieceWalks.{some-of, past-of, walk-rises, walk-within, walk-past, count-is, Numbered, There, Past, piece-numbered}
use Rattle.stripe_layout.proofs.PieceNumbers.{IsNumbered, numbered, number-numbered, numbered-row, row-inside, Next, Following, Ending, next-piece, Walked, Reached, Beyond, walked, in-piece, room-ends, start-begins}

-- ---- rows

pub begin-row : (g : Geometry) (max k stripe unit i : ℕ) → 1 ≤ max → IsNumbered g max k stripe unit i → IsRowOf g stripe (first_row g stripe + i * max)
begin-row g max k stripe unit i some at = row-inside g stripe (i * max) at.stripe_there (some-of max (unit_rows g stripe) i some at.inside)

pub begin-small : (g : Geometry) (max k stripe unit i : ℕ) → IsArray g → 1 ≤ max → IsNumbered g max k stripe unit i → i * max < 4096
begin-small g max k stripe unit i is some at =
    omega (arith, some-of max (unit_rows g stripe) i some at.inside, most-unit_rows g stripe at.stripe_there, most-greatest g is)

-- ---- where a piece begins

-- the walk past the unit that the run begins in
far : (g : Geometry) (max lba n : ℕ) → IsArray g → 1 ≤ max → lba < capacity_of g → pieces_in max (room_in_unit g lba) ≤ n →
    walk g max lba n ≡ walk g max (lba + room_in_unit g lba) (n - pieces_in max (room_in_unit g lba))
far g max lba n is some h le =
    ap (walk g max lba) (split (pieces_in max (room_in_unit g lba)) n le)
    ∙ walk-past g max lba (pieces_in max (room_in_unit g lba)) (n - pieces_in max (room_in_unit g lba)) is some h refl
  where
    split : (m n : ℕ) → m ≤ n → n ≡ m + (n - m)
    split m n le = omega arith

pub begins-here : (g : Geometry) (max lba n : ℕ) → IsArray g → 1 ≤ max → lba < capacity_of g → n < pieces_in max (room_in_unit g lba) →
    lba + n * max ≡ min (walk g max lba n) (capacity_of g)
begins-here g max lba n is some h less =
    let within : n * max < room_in_unit g lba = some-of max (room_in_unit g lba) n some less in
    omega (arith, walk-within g max lba n is some h within, within, room-below g lba is h)

pub begins-nowhere : (g : Geometry) (max lba n : ℕ) → IsArray g → 1 ≤ max → lba < capacity_of g → pieces_in max (room_in_unit g lba) ≤ n →
    capacity_of g ≤ lba + room_in_unit g lba → capacity_of g ≡ min (walk g max lba n) (capacity_of g)
begins-nowhere g max lba n is some h le end =
    omega (arith, far g max lba n is some h le, walk-rises g max (lba + room_in_unit g lba) (n - pieces_in max (room_in_unit g lba)), end)

-- the walk from the next unit on, by numbers
next-unit-walk : (g : Geometry) (max lba n : ℕ) → IsArray g → 1 ≤ max → lba < capacity_of g → lba + room_in_unit g lba < capacity_of g →
    walk g max (lba + room_in_unit g lba) n ≡ walk g max (begin_of g max (number_of g max (lba + room_in_unit g lba))) n
next-unit-walk g max lba n is some h k =
    ap (λ x. walk g max x n) (sym (start-begins g max (lba + room_in_unit g lba) is some k (room-ends g lba is h k)))

pub begins-past : (g : Geometry) (max lba n : ℕ) → IsArray g → 1 ≤ max → lba < capacity_of g → pieces_in max (room_in_unit g lba) ≤ n →
    lba + room_in_unit g lba < capacity_of g →
    capacity_of (in_pieces g max) ≤ number_of g max (lba + room_in_unit g lba) + (n - pieces_in max (room_in_unit g lba)) →
    capacity_of g ≡ min (walk g max lba n) (capacity_of g)
begins-past g max lba n is some h le k past = by_walk (walked g max first rest is some at.below)
  where
    first : ℕ
    first = number_of g max (lba + room_in_unit g lba)

    rest : ℕ
    rest = n - pieces_in max (room_in_unit g lba)

    at : IsNumbered g max first (stripe_of g (lba + room_in_unit g lba)) (unit_of g (lba + room_in_unit g lba)) (offset_in_unit g (lba + room_in_unit g lba) / max)
    at = number-numbered g max (lba + room_in_unit g lba) is some k

    by_walk : Walked g max first rest → capacity_of g ≡ min (walk g max lba n) (capacity_of g)
    by_walk (Reached less e) = absurd (omega (arith, less, past))
    by_walk (Beyond more e) = omega (arith, far g max lba n is some h le, next-unit-walk g max lba rest is some h k, e)

pub begins-there : (g : Geometry) (max lba n : ℕ) → IsArray g → 1 ≤ max → lba < capacity_of g → pieces_in max (room_in_unit g lba) ≤ n →
    lba + room_in_unit g lba < capacity_of g →
    number_of g max (lba + room_in_unit g lba) + (n - pieces_in max (room_in_unit g lba)) < capacity_of (in_pieces g max) →
    begin_of g max (number_of g max (lba + room_in_unit g lba) + (n - pieces_in max (room_in_unit g lba))) ≡ min (walk g max lba n) (capacity_of g)
begins-there g max lba n is some h le k less = by_walk (walked g max first rest is some at.below)
  where
    first : ℕ
    first = number_of g max (lba + room_in_unit g lba)

    rest : ℕ
    rest = n - pieces_in max (room_in_unit g lba)

    at : IsNumbered g max first (stripe_of g (lba + room_in_unit g lba)) (unit_of g (lba + room_in_unit g lba)) (offset_in_unit g (lba + room_in_unit g lba) / max)
    at = number-numbered g max (lba + room_in_unit g lba) is some k

    by_walk : Walked g max first rest → begin_of g max (first + rest) ≡ min (walk g max lba n) (capacity_of g)
    by_walk (Reached there e) =
        let one = numbered g max (first + rest) is some there in
        omega (arith, far g max lba n is some h le, next-unit-walk g max lba rest is some h k, e, one.stands.below)
    by_walk (Beyond more e) = absurd (omega (arith, less, more))

-- ---- the piece of a number

pub found-none : (g : Geometry) (max lba count n begin : ℕ) → IsArray g → 1 ≤ max → lba + count ≤ capacity_of g → begin ≡ min (walk g max lba n) (capacity_of g) →
    lba + count ≤ begin → None ≡ slice_get (pieces_of g max lba count) n
found-none g max lba count n begin is some within e past = by_number (piece-numbered g max count lba count n is some within (omega arith))
  where
    by_number : Numbered g max lba count n (pieces_of g max lba count) → None ≡ slice_get (pieces_of g max lba count) n
    by_number (There at w lt found) = absurd (omega (arith, e, w, lt, past))
    by_number (Past done none) = sym none

pub found-piece : (g : Geometry) (max lba count n begin : ℕ) → IsArray g → 1 ≤ max → lba + count ≤ capacity_of g → begin ≡ min (walk g max lba n) (capacity_of g) →
    begin < lba + count → Some (piece_of g begin (first_count g max begin (lba + count - begin))) ≡ slice_get (pieces_of g max lba count) n
found-piece g max lba count n begin is some within e less = by_number (piece-numbered g max count lba count n is some within (omega arith))
  where
    by_number : Numbered g max lba count n (pieces_of g max lba count) →
        Some (piece_of g begin (first_count g max begin (lba + count - begin))) ≡ slice_get (pieces_of g max lba count) n
    by_number (There at w lt found) =
        let same : begin ≡ at = omega (arith, e, w, lt, within) in
        ap (λ x. Some (piece_of g x (first_count g max x (lba + count - x)))) same ∙ sym found
    by_number (Past done none) = absurd (omega (arith, e, less, done, within))

-- ---- how many pieces

-- blocks of one unit
pub count-within : (g : Geometry) (max lba count : ℕ) → IsArray g → 1 ≤ max → 1 ≤ count → lba + count ≤ capacity_of g → count ≤ room_in_unit g lba →
    pieces_in max count ≡ length (pieces_of g max lba count)
count-within g max lba count is some more within fits =
    let n : ℕ = pieces_in max count - 1 in
    let least : 1 ≤ pieces_in max count = at-least (cases_lt 0 (pieces_in max count)) in
    let last : n * max < count = some-of max count n some (omega (arith, least)) in
    let reached : walk g max lba n ≡ lba + n * max = walk-within g max lba n is some (omega (arith, more, within)) (omega (arith, last, fits)) in
    omega (arith, least, count-is g max lba count n is some within (omega (arith, reached, last)) (ends least))
  where
    at-least : (0 < pieces_in max count) ⊎ (pieces_in max count ≤ 0) → 1 ≤ pieces_in max count
    at-least (inl one) = one
    at-least (inr none) = absurd (omega (arith, past-of max count 0 some none, more))

    all : count ≤ pieces_in max count * max
    all = past-of max count (pieces_in max count) some (omega arith)

    by_size : (pieces_in max count < pieces_in max (room_in_unit g lba)) ⊎ (pieces_in max (room_in_unit g lba) ≤ pieces_in max count) →
        lba + count ≤ walk g max lba (pieces_in max count)
    by_size (inl less) =
        omega (arith, walk-within g max lba (pieces_in max count) is some (omega (arith, more, within)) (some-of max (room_in_unit g lba) (pieces_in max count) some less), all)
    by_size (inr enough) =
        omega (
          arith,
          far g max lba (pieces_in max count) is some (omega (arith, more, within)) enough,
          walk-rises g max (lba + room_in_unit g lba) (pieces_in max count - pieces_in max (room_in_unit g lba)),
          fits,
        )

    ends : 1 ≤ pieces_in max count → lba + count ≤ walk g max lba (pieces_in max count - 1 + 1)
    ends least =
        let same : pieces_in max count ≡ pieces_in max count - 1 + 1 = omega (arith, least) in
        subst (λ x. lba + count ≤ walk g max lba x) same (by_size (cases_lt (pieces_in max count) (pieces_in max (room_in_unit g lba))))

-- numbers rise with blocks
pub numbers-rise : (g : Geometry) (max x y : ℕ) → IsArray g → 1 ≤ max → x ≤ y → y < capacity_of g → number_of g max x ≤ number_of g max y
numbers-rise g max x y is some le h = by_order (cases_lt (number_of g max y) (number_of g max x))
  where
    at_x : IsNumbered g max (number_of g max x) (stripe_of g x) (unit_of g x) (offset_in_unit g x / max)
    at_x = number-numbered g max x is some (omega (arith, le, h))

    at_y : IsNumbered g max (number_of g max y) (stripe_of g y) (unit_of g y) (offset_in_unit g y / max)
    at_y = number-numbered g max y is some h

    by_order : (number_of g max y < number_of g max x) ⊎ (number_of g max x ≤ number_of g max y) → number_of g max x ≤ number_of g max y
    by_order (inr rises) = rises
    by_order (inl falls) = absurd (by_walk (walked g max (number_of g max y) (suc d) is some at_y.below))
      where
        d : ℕ
        d = number_of g max x - number_of g max y - 1

        reached : number_of g max y + suc d ≡ number_of g max x
        reached = omega (arith, falls)

        by_walk : Walked g max (number_of g max y) (suc d) → ⊥
        by_walk (Beyond past e) = omega (arith, past, reached, at_x.below)
        by_walk (Reached there e) =
            let same : begin_of g max (number_of g max y + suc d) ≡ begin_of g max (number_of g max x) = ap (begin_of g max) reached in
            let px = in-piece g max x is some (omega (arith, le, h)) in
            let py = in-piece g max y is some h in
            omega (
              arith,
              e,
              same,
              px.0,
              py.1,
              le,
              walk-rises g max (begin_of g max (number_of g max y) + min (room_in_unit g (begin_of g max (number_of g max y))) max) d,
            )

-- blocks that reach further
pub count-past : (g : Geometry) (max lba count : ℕ) → IsArray g → 1 ≤ max → lba + count ≤ capacity_of g → room_in_unit g lba < count →
    pieces_in max (room_in_unit g lba) + (number_of g max (lba + (count - 1)) - number_of g max (lba + room_in_unit g lba) + 1) ≡ length (pieces_of g max lba count)
count-past g max lba count is some within more =
    omega (arith, count-is g max lba count (head + steps) is some within low high)
  where
    head : ℕ
    head = pieces_in max (room_in_unit g lba)

    next : ℕ
    next = lba + room_in_unit g lba

    last : ℕ
    last = lba + (count - 1)

    steps : ℕ
    steps = number_of g max last - number_of g max next

    rises : number_of g max next ≤ number_of g max last
    rises = numbers-rise g max next last is some (omega (arith, more)) (omega (arith, within, more))

    at_next : IsNumbered g max (number_of g max next) (stripe_of g next) (unit_of g next) (offset_in_unit g next / max)
    at_next = number-numbered g max next is some (omega (arith, within, more))

    at_last : IsNumbered g max (number_of g max last) (stripe_of g last) (unit_of g last) (offset_in_unit g last / max)
    at_last = number-numbered g max last is some (omega (arith, within, more))

    from-next : (n : ℕ) → walk g max lba (head + n) ≡ walk g max (begin_of g max (number_of g max next)) n
    from-next n =
        walk-past g max lba head n is some (omega (arith, within, more)) refl
        ∙ next-unit-walk g max lba n is some (omega (arith, within, more)) (omega (arith, within, more))

    piece : (last ≡ begin_of g max (number_of g max last) + offset_in_unit g last % max)
        × (last < begin_of g max (number_of g max last) + min (room_in_unit g (begin_of g max (number_of g max last))) max)
    piece = in-piece g max last is some (omega (arith, within, more))

    by_low : Walked g max (number_of g max next) steps → walk g max lba (head + steps) < lba + count
    by_low (Beyond past e) = absurd (omega (arith, past, rises, at_last.below))
    by_low (Reached there e) =
        let same : begin_of g max (number_of g max next + steps) ≡ begin_of g max (number_of g max last) = ap (begin_of g max) (omega (arith, rises)) in
        omega (arith, from-next steps, e, same, piece.0, more)

    low : walk g max lba (head + steps) < lba + count
    low = by_low (walked g max (number_of g max next) steps is some at_next.below)

    by_end : Next g max (number_of g max last) → begin_of g max (number_of g max last + 1) ≡ begin_of g max (number_of g max last + 1) → Walked g max (number_of g max next) (steps + 1) →
        lba + count ≤ walk g max lba (head + (steps + 1))
    by_end following e0 (Beyond past e) = omega (arith, from-next (steps + 1), e, within)
    by_end (Ending end whole) e0 (Reached there e) = absurd (omega (arith, there, rises, whole))
    by_end (Following step less) e0 (Reached there e) =
        let same : begin_of g max (number_of g max next + (steps + 1)) ≡ begin_of g max (number_of g max last + 1) = ap (begin_of g max) (omega (arith, rises)) in
        omega (arith, from-next (steps + 1), e, same, step, piece.1, more)

    high : lba + count ≤ walk g max lba (head + steps + 1)
    high =
        let same : head + (steps + 1) ≡ head + steps + 1 = omega arith in
        subst (λ x. lba + count ≤ walk g max lba x) same
        (by_end (next-piece g max (number_of g max last) is some at_last.below) refl (walked g max (number_of g max next) (steps + 1) is some at_next.below))

-- the row of a piece among the pieces
pub number-row : (g : Geometry) (max lba : ℕ) → IsArray g → 1 ≤ max → lba < capacity_of g →
    IsRowOf (in_pieces g max) (stripe_of g lba) (first_row (in_pieces g max) (stripe_of g lba) + offset_in_unit g lba / max)
number-row g max lba is some h =
    let at = number-numbered g max lba is some h in
    numbered-row g max (number_of g max lba) (stripe_of g lba) (unit_of g lba) (offset_in_unit g lba / max) some at

-- no more than there are blocks
pub cut-few : (g : Geometry) (max left lba count : ℕ) → length (cut g max left lba count) ≤ left
cut-few g max zero lba count = omega arith
cut-few g max (suc left) lba zero = omega arith
cut-few g max (suc left) lba (suc others) =
    omega (arith, cut-few g max left (lba + first_count g max lba (suc others)) (suc others - first_count g max lba (suc others)))

pub count-few : (g : Geometry) (max lba count : ℕ) → length (pieces_of g max lba count) ≤ count
count-few g max lba count = cut-few g max count lba count
