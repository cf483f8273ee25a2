-- The pieces of whole units are numbered as the blocks of an array are, whose units have a block for each piece. What
-- begins with a piece of a number is found so, without those before it.
use Rattle.std.proofs.Common.{◌≡◌, ℕ, zero, suc, ◌+◌, ◌-◌, ◌*◌, ◌/◌, ◌%◌, ◌<◌, ◌≤◌, ◌⊎◌, min, List, [], ◌∷◌, map, refl, sym, ap, arith, ◌∙◌, inl, inr, subst}
use Rattle.std.specs.List.{AllByRecursion}
use Rattle.std.proofs.lemmas.Bool.{cases_lt}
use Rattle.std.proofs.lemmas.List.{length-map}
use Rattle.std.proofs.lemmas.Nat.{div-add-mod', mod_below}
use Rattle.std.proofs.Math.Nat.{add-mul, mul_comm}
use Rattle.stripe_layout.specs.declared.areas.Area.{Area}
use Rattle.stripe_layout.specs.declared.geometry.Geometry.{Geometry}
use Rattle.stripe_layout.specs.Layout.{IsArea, IsArray, IsRowOf, stripes_in, unit_rows_in, stripes_of, first_row, unit_rows, capacity_of, stripe_of, unit_of, offset_in_unit, room_in_unit, lba_at}
use Rattle.stripe_layout.specs.Laws.{StandsAt}
use Rattle.stripe_layout.specs.PieceNumbers.{pieces_in, area_pieces, in_pieces, number_of, begin_of, walk}
use Rattle.stripe_layout.proofs.AreaRows.{unit-here, unit-more}
use Rattle.stripe_layout.proofs.StripeLaws.{first_row-next, first_row-end, some-unit_rows, first-row_of}
use Rattle.stripe_layout.proofs.PlaceLaws.{stripe_of-below, unit_of-below, offset-below, lba_at-place, lba_at-stands}
use Rattle.stripe_layout.proofs.PieceWalks.{some-of, past-of, few-in, none-in, walk-rises}

-- ---- the array of the pieces

stripes-kept : (max : ℕ) (areas : List Area) → stripes_in (map (area_pieces max) areas) ≡ stripes_in areas
stripes-kept max [] = refl
stripes-kept max (a ∷ more) = ap (λ n. a.stripes + n) (stripes-kept max more)

unit-pieces : (max : ℕ) (areas : List Area) (stripe : ℕ) → 1 ≤ max → unit_rows_in (map (area_pieces max) areas) stripe ≡ pieces_in max (unit_rows_in areas stripe)
unit-pieces max [] stripe some = sym (none-in max some)
unit-pieces max (a ∷ more) stripe some = elim (cases_lt stripe a.stripes) [
  | inl here ↦
      unit-here (area_pieces max a) (map (area_pieces max) more) stripe here ∙ ap (pieces_in max) (sym (unit-here a more stripe here))
  | inr behind ↦
      unit-more (area_pieces max a) (map (area_pieces max) more) stripe behind ∙ unit-pieces max more (stripe - a.stripes) some
      ∙ ap (pieces_in max) (sym (unit-more a more stripe behind))
]

pieces-ranged : (max : ℕ) (areas : List Area) → 1 ≤ max → AllByRecursion IsArea areas → AllByRecursion IsArea (map (area_pieces max) areas)
pieces-ranged max [] some all = tt
pieces-ranged max (a ∷ more) some all = (
  record {
    least_unit = some-pieces (cases_lt 0 (pieces_in max a.unit));
    most_unit = omega (arith, few-in max a.unit some, all.0.most_unit);
    least_stripes = all.0.least_stripes;
    most_stripes = all.0.most_stripes;
  },
  pieces-ranged max more some all.1,
)
  where
    some-pieces : (0 < pieces_in max a.unit) ⊎ (pieces_in max a.unit ≤ 0) → 1 ≤ pieces_in max a.unit
    some-pieces (inl more) = more
    some-pieces (inr none) = absurd (omega (arith, past-of max a.unit 0 some none, all.0.least_unit))

pub pieces-array : (g : Geometry) (max : ℕ) → IsArray g → 1 ≤ max → IsArray (in_pieces g max)
pieces-array g max is some = record {
  least_targets = is.least_targets;
  most_targets = is.most_targets;
  least_block = is.least_block;
  most_block = is.most_block;
  least_areas = omega (arith, length-map g.areas (area_pieces max), is.least_areas);
  most_areas = omega (arith, length-map g.areas (area_pieces max), is.most_areas);
  areas = pieces-ranged max g.areas some is.areas;
}

-- ---- the end of a unit

-- the block behind a unit
abbrev behind_unit : Geometry → ℕ → ℕ → ℕ
behind_unit g stripe unit = first_row g stripe * (g.targets - 1) + (unit + 1) * unit_rows g stripe

-- where it stands: at the start of the next unit of the stripe, or of the next stripe's first unit, or nowhere
data NextUnit (stripe unit stripes data_units : ℕ) : Type 0 where
  SameStripe : unit + 1 < data_units → NextUnit stripe unit stripes data_units
  NextStripe : unit + 1 ≡ data_units → stripe + 1 < stripes → NextUnit stripe unit stripes data_units
  AtEnd : unit + 1 ≡ data_units → stripe + 1 ≡ stripes → NextUnit stripe unit stripes data_units

next-unit : (stripe unit stripes data_units : ℕ) → stripe < stripes → unit < data_units → NextUnit stripe unit stripes data_units
next-unit stripe unit stripes data_units h k = by_order (cases_lt (unit + 1) data_units) (cases_lt (stripe + 1) stripes)
  where
    by_order : (unit + 1 < data_units) ⊎ (data_units ≤ unit + 1) → (stripe + 1 < stripes) ⊎ (stripes ≤ stripe + 1) → NextUnit stripe unit stripes data_units
    by_order (inl less) _ = SameStripe less
    by_order (inr last) (inl less) = NextStripe (omega (arith, k, last)) less
    by_order (inr last) (inr end) = AtEnd (omega (arith, k, last)) (omega (arith, h, end))

start-of : (g : Geometry) (stripe unit : ℕ) → lba_at g stripe unit (first_row g stripe) ≡ first_row g stripe * (g.targets - 1) + unit * unit_rows g stripe
start-of g stripe unit = omega arith

behind-stripe : (g : Geometry) (stripe unit : ℕ) → stripe < stripes_of g → unit + 1 ≡ g.targets - 1 → behind_unit g stripe unit ≡ first_row g (stripe + 1) * (g.targets - 1)
behind-stripe g stripe unit h last =
    ap (λ n. first_row g stripe * (g.targets - 1) + n * unit_rows g stripe) last
    ∙ omega (arith, add-mul (first_row g stripe) (unit_rows g stripe) (g.targets - 1), mul_comm (g.targets - 1) (unit_rows g stripe))
    ∙ ap (λ n. n * (g.targets - 1)) (sym (first_row-next g stripe h))

behind-is : (g : Geometry) (stripe unit : ℕ) → stripe < stripes_of g → unit + 1 ≡ g.targets - 1 → stripe + 1 < stripes_of g →
    behind_unit g stripe unit ≡ lba_at g (stripe + 1) 0 (first_row g (stripe + 1))
behind-is g stripe unit h last more = behind-stripe g stripe unit h last ∙ omega arith

behind-end : (g : Geometry) (stripe unit : ℕ) → stripe < stripes_of g → unit + 1 ≡ g.targets - 1 → stripe + 1 ≡ stripes_of g → behind_unit g stripe unit ≡ capacity_of g
behind-end g stripe unit h last end =
    behind-stripe g stripe unit h last ∙ ap (λ n. first_row g n * (g.targets - 1)) end ∙ ap (λ n. n * (g.targets - 1)) (first_row-end g)

-- ---- a number's piece

-- the piece of a number is one of a unit's, and begins so many blocks behind the unit's first
pub record IsNumbered (g : Geometry) (max k stripe unit i : ℕ) : Type 0 where
  pub below : k < capacity_of (in_pieces g max)
  pub stripe_there : stripe < stripes_of g
  pub unit_there : unit < g.targets - 1
  pub inside : i < pieces_in max (unit_rows g stripe)
  pub number : k ≡ lba_at (in_pieces g max) stripe unit (first_row (in_pieces g max) stripe + i)
  pub begins : begin_of g max k ≡ lba_at g stripe unit (first_row g stripe + i * max)
  pub stands : StandsAt g (begin_of g max k) stripe unit (first_row g stripe + i * max)

-- an offset in a unit, by the row
offset-of : (g : Geometry) (lba stripe unit row a : ℕ) → StandsAt g lba stripe unit row → row ≡ first_row g stripe + a → offset_in_unit g lba ≡ a
offset-of g lba stripe unit row a at e =
    let first : first_row g (stripe_of g lba) ≡ first_row g stripe = ap (first_row g) at.stripe_is in
    omega (arith, first, at.row_is, e)

pub row-inside : (g : Geometry) (stripe a : ℕ) → stripe < stripes_of g → a < unit_rows g stripe → IsRowOf g stripe (first_row g stripe + a)
row-inside g stripe a h k = record { in_array = h; first = omega arith; last = omega (arith, k) }

numbered-at : (g : Geometry) (max k stripe unit i : ℕ) → IsArray g → 1 ≤ max → stripe < stripes_of g → unit < g.targets - 1 →
    i < pieces_in max (unit_rows g stripe) → k ≡ lba_at (in_pieces g max) stripe unit (first_row (in_pieces g max) stripe + i) →
    IsNumbered g max k stripe unit i
numbered-at g max k stripe unit i is some h j inside e = record {
  below = there.below;
  stripe_there = h;
  unit_there = j;
  inside = inside;
  number = e;
  begins = begins;
  stands = subst (λ x. StandsAt g x stripe unit (first_row g stripe + i * max)) (sym begins)
      (lba_at-stands g stripe unit (first_row g stripe + i * max) is j (row-inside g stripe (i * max) h (some-of max (unit_rows g stripe) i some inside)));
}
  where
    p : Geometry
    p = in_pieces g max

    there : StandsAt p k stripe unit (first_row p stripe + i)
    there = subst (λ x. StandsAt p x stripe unit (first_row p stripe + i)) (sym e)
        (lba_at-stands p stripe unit (first_row p stripe + i) (pieces-array g max is some) j
        (row-inside p stripe i (omega (arith, h, stripes-kept max g.areas)) (omega (arith, inside, unit-pieces max g.areas stripe some))))

    begins : begin_of g max k ≡ lba_at g stripe unit (first_row g stripe + i * max)
    begins =
        ap (λ s. lba_at g s (unit_of p k) (first_row g s + offset_in_unit p k * max)) there.stripe_is
        ∙ ap (λ u. lba_at g stripe u (first_row g stripe + offset_in_unit p k * max)) there.unit_is
        ∙ ap (λ o. lba_at g stripe unit (first_row g stripe + o * max)) (offset-of p k stripe unit (first_row p stripe + i) i there refl)

pub numbered-row : (g : Geometry) (max k stripe unit i : ℕ) → 1 ≤ max → IsNumbered g max k stripe unit i →
    IsRowOf (in_pieces g max) stripe (first_row (in_pieces g max) stripe + i)
numbered-row g max k stripe unit i some at =
    row-inside (in_pieces g max) stripe i (omega (arith, at.stripe_there, stripes-kept max g.areas)) (omega (arith, at.inside, unit-pieces max g.areas stripe some))

pub numbered : (g : Geometry) (max k : ℕ) → IsArray g → 1 ≤ max → k < capacity_of (in_pieces g max) →
    IsNumbered g max k (stripe_of (in_pieces g max) k) (unit_of (in_pieces g max) k) (offset_in_unit (in_pieces g max) k)
numbered g max k is some h =
    let p : Geometry = in_pieces g max in
    let isp = pieces-array g max is some in
    numbered-at g max k (stripe_of p k) (unit_of p k) (offset_in_unit p k) is some
    (omega (arith, stripe_of-below p k isp h, stripes-kept max g.areas)) (unit_of-below p k isp h)
    (omega (arith, offset-below p k isp h, unit-pieces max g.areas (stripe_of p k) some)) (sym (lba_at-place p k isp h))

-- what is left of the unit where the piece begins
room-at : (g : Geometry) (max k stripe unit i : ℕ) → IsArray g → IsNumbered g max k stripe unit i → room_in_unit g (begin_of g max k) ≡ unit_rows g stripe - i * max
room-at g max k stripe unit i is at =
    let size : unit_rows g (stripe_of g (begin_of g max k)) ≡ unit_rows g stripe = ap (unit_rows g) at.stands.stripe_is in
    omega (arith, size, offset-of g (begin_of g max k) stripe unit (first_row g stripe + i * max) (i * max) at.stands refl)

-- the piece that follows
pub data Next (g : Geometry) (max k : ℕ) : Type 0 where
  Following : begin_of g max k + min (room_in_unit g (begin_of g max k)) max ≡ begin_of g max (k + 1) → k + 1 < capacity_of (in_pieces g max) → Next g max k
  Ending : begin_of g max k + min (room_in_unit g (begin_of g max k)) max ≡ capacity_of g → k + 1 ≡ capacity_of (in_pieces g max) → Next g max k

-- a further piece of the same unit
next-inside : (g : Geometry) (max k stripe unit i : ℕ) → IsArray g → 1 ≤ max → IsNumbered g max k stripe unit i → i + 1 < pieces_in max (unit_rows g stripe) → Next g max k
next-inside g max k stripe unit i is some at more =
    let next = numbered-at g max (k + 1) stripe unit (i + 1) is some at.stripe_there at.unit_there more (omega (arith, at.number)) in
    let longer : (i + 1) * max ≡ i * max + max = omega (arith, add-mul i 1 max) in
    let within : (i + 1) * max < unit_rows g stripe = some-of max (unit_rows g stripe) (i + 1) some more in
    Following (omega (arith, at.begins, next.begins, room-at g max k stripe unit i is at, longer, within)) next.below

-- the piece is its unit's last
next-behind : (g : Geometry) (max k stripe unit i : ℕ) → IsArray g → 1 ≤ max → IsNumbered g max k stripe unit i → pieces_in max (unit_rows g stripe) ≤ i + 1 → Next g max k
next-behind g max k stripe unit i is some at last = by_next (next-unit stripe unit (stripes_of g) (g.targets - 1) at.stripe_there at.unit_there)
  where
    p : Geometry
    p = in_pieces g max

    all : i + 1 ≡ unit_rows p stripe
    all = omega (arith, at.inside, last, unit-pieces max g.areas stripe some)

    longer : (unit + 1) * unit_rows g stripe ≡ unit * unit_rows g stripe + unit_rows g stripe
    longer = omega (arith, add-mul unit 1 (unit_rows g stripe))

    -- the piece takes what is left
    ends : begin_of g max k + min (room_in_unit g (begin_of g max k)) max ≡ behind_unit g stripe unit
    ends =
        omega (
          arith,
          at.begins,
          room-at g max k stripe unit i is at,
          some-of max (unit_rows g stripe) i some at.inside,
          past-of max (unit_rows g stripe) (i + 1) some last,
          add-mul i 1 max,
          longer,
        )

    numbers : k + 1 ≡ behind_unit p stripe unit
    numbers = omega (arith, at.number, all, add-mul unit 1 (unit_rows p stripe))

    there : stripe < stripes_of p
    there = omega (arith, at.stripe_there, stripes-kept max g.areas)

    first : (s : ℕ) → s < stripes_of g → 0 < pieces_in max (unit_rows g s)
    first s h = omega (arith, some-unit_rows p s (pieces-array g max is some) (omega (arith, h, stripes-kept max g.areas)), unit-pieces max g.areas s some)

    by_next : NextUnit stripe unit (stripes_of g) (g.targets - 1) → Next g max k
    by_next (SameStripe less) =
        let next = numbered-at g max (k + 1) stripe (unit + 1) 0 is some at.stripe_there less (first stripe at.stripe_there) (numbers ∙ omega arith) in
        Following (ends ∙ omega (arith, next.begins)) next.below
    by_next (NextStripe whole less) =
        let next = numbered-at g max (k + 1) (stripe + 1) 0 0 is some less (omega (arith, is.least_targets)) (first (stripe + 1) less)
        (numbers ∙ behind-is p stripe unit there whole (omega (arith, less, stripes-kept max g.areas)) ∙ omega arith) in
        Following (ends ∙ behind-is g stripe unit at.stripe_there whole less ∙ omega (arith, next.begins)) next.below
    by_next (AtEnd whole end) =
        Ending (ends ∙ behind-end g stripe unit at.stripe_there whole end) (numbers ∙ behind-end p stripe unit there whole (end ∙ sym (stripes-kept max g.areas)))

pub next-piece : (g : Geometry) (max k : ℕ) → IsArray g → 1 ≤ max → k < capacity_of (in_pieces g max) → Next g max k
next-piece g max k is some h =
    let p : Geometry = in_pieces g max in
    let at = numbered g max k is some h in
    elim (cases_lt (offset_in_unit p k + 1) (pieces_in max (unit_rows g (stripe_of p k)))) [
      | inl more ↦ next-inside g max k (stripe_of p k) (unit_of p k) (offset_in_unit p k) is some at more
      | inr last ↦ next-behind g max k (stripe_of p k) (unit_of p k) (offset_in_unit p k) is some at last
    ]

-- ---- so many pieces on

pub data Walked (g : Geometry) (max k n : ℕ) : Type 0 where
  Reached : k + n < capacity_of (in_pieces g max) → walk g max (begin_of g max k) n ≡ begin_of g max (k + n) → Walked g max k n
  Beyond : capacity_of (in_pieces g max) ≤ k + n → capacity_of g ≤ walk g max (begin_of g max k) n → Walked g max k n

pub walked : (g : Geometry) (max k n : ℕ) → IsArray g → 1 ≤ max → k < capacity_of (in_pieces g max) → Walked g max k n
walked g max k zero is some h = Reached (omega (arith, h)) (ap (begin_of g max) (none k))
  where
    none : (k : ℕ) → k ≡ k + 0
    none k = omega arith
walked g max k (suc n) is some h = by_next (next-piece g max k is some h) (λ less. walked g max (k + 1) n is some less)
  where
    one-more : k + 1 + n ≡ k + suc n
    one-more = omega arith

    by_next : Next g max k → (k + 1 < capacity_of (in_pieces g max) → Walked g max (k + 1) n) → Walked g max k (suc n)
    by_next (Ending end last) rest =
        Beyond (omega (arith, last)) (subst (λ x. capacity_of g ≤ walk g max x n) (sym end) (walk-rises g max (capacity_of g) n))
    by_next (Following e less) rest = by_rest (rest less)
      where
        by_rest : Walked g max (k + 1) n → Walked g max k (suc n)
        by_rest (Reached there at) = Reached (omega (arith, there)) (ap (λ x. walk g max x n) e ∙ at ∙ ap (begin_of g max) one-more)
        by_rest (Beyond past at) = Beyond (omega (arith, past)) (subst (λ x. capacity_of g ≤ walk g max x n) (sym e) at)

-- ---- the piece that a block is in

pub number-numbered : (g : Geometry) (max lba : ℕ) → IsArray g → 1 ≤ max → lba < capacity_of g →
    IsNumbered g max (number_of g max lba) (stripe_of g lba) (unit_of g lba) (offset_in_unit g lba / max)
number-numbered g max lba is some h =
    numbered-at g max (number_of g max lba) (stripe_of g lba) (unit_of g lba) (offset_in_unit g lba / max) is some
    (stripe_of-below g lba is h) (unit_of-below g lba is h) (inside (cases_lt (offset_in_unit g lba / max) (pieces_in max (unit_rows g (stripe_of g lba))))) refl
  where
    inside : (offset_in_unit g lba / max < pieces_in max (unit_rows g (stripe_of g lba))) ⊎ (pieces_in max (unit_rows g (stripe_of g lba)) ≤ offset_in_unit g lba / max) →
        offset_in_unit g lba / max < pieces_in max (unit_rows g (stripe_of g lba))
    inside (inl less) = less
    inside (inr more) =
        absurd (omega (arith, past-of max (unit_rows g (stripe_of g lba)) (offset_in_unit g lba / max) some more, div-add-mod' (offset_in_unit g lba) max, offset-below g lba is h))

-- it begins at the block or before it, and ends behind it
pub in-piece : (g : Geometry) (max lba : ℕ) → IsArray g → 1 ≤ max → lba < capacity_of g →
    (lba ≡ begin_of g max (number_of g max lba) + offset_in_unit g lba % max)
    × (lba < begin_of g max (number_of g max lba) + min (room_in_unit g (begin_of g max (number_of g max lba))) max)
in-piece g max lba is some h =
    let at = number-numbered g max lba is some h in
    let room = room-at g max (number_of g max lba) (stripe_of g lba) (unit_of g lba) (offset_in_unit g lba / max) is at in
    let split = div-add-mod' (offset_in_unit g lba) max in
    let whole : lba ≡ begin_of g max (number_of g max lba) + offset_in_unit g lba % max =
    omega (arith, at.begins, lba_at-place g lba is h, split) in
    (whole, omega (arith, whole, room, split, mod_below (offset_in_unit g lba) max some, offset-below g lba is h))

-- the block behind a unit begins one
pub room-ends : (g : Geometry) (lba : ℕ) → IsArray g → lba < capacity_of g → lba + room_in_unit g lba < capacity_of g → offset_in_unit g (lba + room_in_unit g lba) ≡ 0
room-ends g lba is h k =
    by_next (next-unit (stripe_of g lba) (unit_of g lba) (stripes_of g) (g.targets - 1) (stripe_of-below g lba is h) (unit_of-below g lba is h))
  where
    s : ℕ
    s = stripe_of g lba

    j : ℕ
    j = unit_of g lba

    behind : lba + room_in_unit g lba ≡ behind_unit g s j
    behind = omega (arith, lba_at-place g lba is h, offset-below g lba is h, add-mul j 1 (unit_rows g s))

    starts : (stripe unit : ℕ) → stripe < stripes_of g → unit < g.targets - 1 → lba + room_in_unit g lba ≡ lba_at g stripe unit (first_row g stripe) →
        offset_in_unit g (lba + room_in_unit g lba) ≡ 0
    starts stripe unit there below e =
        offset-of g (lba + room_in_unit g lba) stripe unit (first_row g stripe) 0
        (subst (λ x. StandsAt g x stripe unit (first_row g stripe)) (sym e)
        (lba_at-stands g stripe unit (first_row g stripe) is below (first-row_of g stripe is there)))
        (omega arith)

    by_next : NextUnit s j (stripes_of g) (g.targets - 1) → offset_in_unit g (lba + room_in_unit g lba) ≡ 0
    by_next (SameStripe less) = starts s (j + 1) (stripe_of-below g lba is h) less (behind ∙ omega arith)
    by_next (NextStripe whole less) =
        starts (s + 1) 0 less (omega (arith, is.least_targets)) (behind ∙ behind-is g s j (stripe_of-below g lba is h) whole less)
    by_next (AtEnd whole end) = absurd (omega (arith, k, behind, behind-end g s j (stripe_of-below g lba is h) whole end))

-- a unit's first block begins a piece
pub start-begins : (g : Geometry) (max lba : ℕ) → IsArray g → 1 ≤ max → lba < capacity_of g → offset_in_unit g lba ≡ 0 → begin_of g max (number_of g max lba) ≡ lba
start-begins g max lba is some h start =
    let whole = in-piece g max lba is some h in
    let none : offset_in_unit g lba % max ≡ 0 = omega (arith, start, div-add-mod' (offset_in_unit g lba) max) in
    omega (arith, whole.0, none)
