-- The place of a block and the block at a place undo each other.
use Rattle.std.proofs.Common.{◌≡◌, ℕ, ◌+◌, ◌-◌, ◌*◌, ◌/◌, ◌%◌, ◌<◌, ◌≤◌, inl, inr, ap, ◌∙◌, refl, arith}
use Rattle.std.proofs.Math.Nat.{add-mul, mul_comm}
use Rattle.std.proofs.lemmas.Nat.{mul-le, mul-add-lt, div_below, div-mul-add, mod-mul-add, div-add-mod', mod_below}
use Rattle.std.proofs.lemmas.Bool.{cases_lt}
use Rattle.stripe_layout.specs.declared.geometry.Geometry.{Geometry}
use Rattle.stripe_layout.specs.Layout.{IsArray, IsRowOf, stripes_of, first_row, unit_rows, rows_of, capacity_of, stripe_of, unit_of, row_of, offset_in_stripe, offset_in_unit, room_in_unit, lba_at}
use Rattle.stripe_layout.specs.Laws.{StandsAt}
use Rattle.stripe_layout.proofs.StripeLaws.{some-unit_rows, stripe-below, row-stripe, stripe_of_row-at}

-- ---- numbers alone

-- a quotient is at least what fits so many times
at-least : (n w q : ℕ) → 0 < w → q * w ≤ n → q ≤ n / w
at-least n w q some h = elim (cases_lt (n / w) q) [
  | inr enough ↦ enough
  | inl short ↦ absurd (omega (arith, h, div-add-mod' n w, mod_below n w some, mul-le (n / w + 1) w q w (omega (arith, short)) (omega arith), add-mul (n / w) 1 w))
]

-- the blocks of the rows from one on
past-first : (lba w first count : ℕ) → 0 < w → first ≤ lba / w → lba / w < first + count →
    (first * w ≤ lba) × (lba - first * w < count * w)
past-first lba w first count some low high =
    let from : first * w ≤ lba = omega (arith, div-add-mod' lba w, mul-le first w (lba / w) w low (omega arith)) in
    let to : lba < (first + count) * w =
    omega (arith, div-add-mod' lba w, mod_below lba w some, mul-le (lba / w + 1) w (first + count) w (omega (arith, high)) (omega arith), add-mul (lba / w) 1 w) in
    (from, omega (arith, from, to, add-mul first count w))

-- ---- the place of a block

more-targets : (g : Geometry) → IsArray g → 0 < g.targets - 1
more-targets g is = omega (arith, is.least_targets)

row-of-block : (g : Geometry) (lba : ℕ) → IsArray g → lba < capacity_of g → IsRowOf g (stripe_of g lba) (lba / (g.targets - 1))
row-of-block g lba is h = row-stripe g (lba / (g.targets - 1)) is (div_below lba (g.targets - 1) (rows_of g) (more-targets g is) h)

pub stripe_of-below : (g : Geometry) (lba : ℕ) → IsArray g → lba < capacity_of g → stripe_of g lba < stripes_of g
stripe_of-below g lba is h = let at = row-of-block g lba is h in at.in_array

pub some-unit : (g : Geometry) (lba : ℕ) → IsArray g → lba < capacity_of g → 1 ≤ unit_rows g (stripe_of g lba)
some-unit g lba is h = some-unit_rows g (stripe_of g lba) is (stripe_of-below g lba is h)

-- a block is one of its stripe's
pub in-stripe : (g : Geometry) (lba : ℕ) → IsArray g → lba < capacity_of g →
    (first_row g (stripe_of g lba) * (g.targets - 1) ≤ lba) × (offset_in_stripe g lba < unit_rows g (stripe_of g lba) * (g.targets - 1))
in-stripe g lba is h =
    let at = row-of-block g lba is h in
    past-first lba (g.targets - 1) (first_row g (stripe_of g lba)) (unit_rows g (stripe_of g lba)) (more-targets g is) at.first at.last

pub unit_of-below : (g : Geometry) (lba : ℕ) → IsArray g → lba < capacity_of g → unit_of g lba < g.targets - 1
unit_of-below g lba is h =
    let within = in-stripe g lba is h in
    div_below (offset_in_stripe g lba) (unit_rows g (stripe_of g lba)) (g.targets - 1) (some-unit g lba is h)
    (omega (arith, within.1, mul_comm (unit_rows g (stripe_of g lba)) (g.targets - 1)))

pub offset-below : (g : Geometry) (lba : ℕ) → IsArray g → lba < capacity_of g → offset_in_unit g lba < unit_rows g (stripe_of g lba)
offset-below g lba is h = mod_below (offset_in_stripe g lba) (unit_rows g (stripe_of g lba)) (some-unit g lba is h)

pub room-is : (g : Geometry) (lba : ℕ) → IsArray g → lba < capacity_of g → room_in_unit g lba ≡ unit_rows g (stripe_of g lba) - offset_in_unit g lba
room-is g lba is h = refl

pub row_of-stripe : (g : Geometry) (lba : ℕ) → IsArray g → lba < capacity_of g → IsRowOf g (stripe_of g lba) (row_of g lba)
row_of-stripe g lba is h = record {
  in_array = stripe_of-below g lba is h;
  first = omega arith;
  last = omega (arith, offset-below g lba is h);
}

-- ---- the block at a place

pub lba_at-place : (g : Geometry) (lba : ℕ) → IsArray g → lba < capacity_of g → lba_at g (stripe_of g lba) (unit_of g lba) (row_of g lba) ≡ lba
lba_at-place g lba is h =
    let within = in-stripe g lba is h in
    whole (first_row g (stripe_of g lba) * (g.targets - 1)) (first_row g (stripe_of g lba)) (unit_of g lba * unit_rows g (stripe_of g lba)) (offset_in_unit g lba) lba
    within.0 (div-add-mod' (offset_in_stripe g lba) (unit_rows g (stripe_of g lba)))
  where
    whole : (from first units offset lba : ℕ) → from ≤ lba → units + offset ≡ lba - from → from + units + (first + offset - first) ≡ lba
    whole from first units offset lba le e = omega arith

-- a row of a stripe's data unit, by the blocks of the stripe that stand before it
behind-first : (g : Geometry) (stripe unit row : ℕ) → unit < g.targets - 1 → IsRowOf g stripe row →
    unit * unit_rows g stripe + (row - first_row g stripe) < unit_rows g stripe * (g.targets - 1)
behind-first g stripe unit row h at = mul-add-lt unit (unit_rows g stripe) (row - first_row g stripe) (g.targets - 1) h (omega (arith, at.first, at.last))

row-of-lba : (g : Geometry) (stripe unit row : ℕ) → IsArray g → unit < g.targets - 1 → IsRowOf g stripe row →
    IsRowOf g stripe (lba_at g stripe unit row / (g.targets - 1))
row-of-lba g stripe unit row is h at = record {
  in_array = at.in_array;
  first = at-least (lba_at g stripe unit row) (g.targets - 1) (first_row g stripe) (more-targets g is) (omega arith);
  last =
      div_below (lba_at g stripe unit row) (g.targets - 1) (first_row g stripe + unit_rows g stripe) (more-targets g is)
      (omega (arith, behind-first g stripe unit row h at, add-mul (first_row g stripe) (unit_rows g stripe) (g.targets - 1)));
}

pub lba_at-stands : (g : Geometry) (stripe unit row : ℕ) → IsArray g → unit < g.targets - 1 → IsRowOf g stripe row →
    StandsAt g (lba_at g stripe unit row) stripe unit row
lba_at-stands g stripe unit row is h at = record {
  below =
      omega (
        arith,
        behind-first g stripe unit row h at,
        add-mul (first_row g stripe) (unit_rows g stripe) (g.targets - 1),
        mul-le (first_row g stripe + unit_rows g stripe) (g.targets - 1) (rows_of g) (g.targets - 1) (stripe-below g stripe at.in_array) (omega arith),
      );
  stripe_is = here;
  unit_is = ap (λ s. offset_at s / unit_rows g s) here ∙ ap (λ n. n / unit_rows g stripe) split ∙ div-mul-add unit (unit_rows g stripe) (row - first_row g stripe) in_unit;
  row_is =
      ap (λ s. first_row g s + offset_at s % unit_rows g s) here
      ∙ ap (λ n. first_row g stripe + n % unit_rows g stripe) split
      ∙ ap (λ n. first_row g stripe + n) (mod-mul-add unit (unit_rows g stripe) (row - first_row g stripe) in_unit)
      ∙ omega (arith, at.first);
}
  where
    here : stripe_of g (lba_at g stripe unit row) ≡ stripe
    here = stripe_of_row-at g stripe (lba_at g stripe unit row / (g.targets - 1)) is (row-of-lba g stripe unit row is h at)

    offset_at : ℕ → ℕ
    offset_at s = lba_at g stripe unit row - first_row g s * (g.targets - 1)

    in_unit : row - first_row g stripe < unit_rows g stripe
    in_unit = omega (arith, at.first, at.last)

    split : offset_at stripe ≡ unit * unit_rows g stripe + (row - first_row g stripe)
    split = omega arith

-- the blocks of a unit stand one after another
pub lba_at-next : (g : Geometry) (stripe unit row j : ℕ) → IsRowOf g stripe row → IsRowOf g stripe (row + j) →
    lba_at g stripe unit (row + j) ≡ lba_at g stripe unit row + j
lba_at-next g stripe unit row j at to = omega (arith, at.first)
