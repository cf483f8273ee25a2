-- Stripes follow one another on the rows of a target, and fill them.
use Rattle.std.proofs.Common.{◌≡◌, ℕ, ◌+◌, ◌-◌, ◌<◌, ◌≤◌, ◌⊎◌, inl, inr, arith}
use Rattle.std.proofs.lemmas.Nat.{mul-le}
use Rattle.std.proofs.lemmas.Bool.{cases_order}
use Rattle.stripe_layout.specs.declared.geometry.Geometry.{Geometry}
use Rattle.stripe_layout.specs.Layout.{IsArray, IsRowOf, stripes_of, first_row, unit_rows, greatest_unit, rows_of, stripe_of_row, capacity_of, parity_of}
use Rattle.stripe_layout.proofs.AreaRows.{first-none, stripe-fits, first-apart, first-next, first-end, unit-some, unit-most, greatest-most, greatest-some, stripes-most, stripes-some, rows-most, row-in}

-- ---- one stripe after another

pub first_row-none : (g : Geometry) → first_row g 0 ≡ 0
first_row-none g = first-none g.areas

pub first_row-next : (g : Geometry) (stripe : ℕ) → stripe < stripes_of g → first_row g (stripe + 1) ≡ first_row g stripe + unit_rows g stripe
first_row-next g stripe h = first-next g.areas stripe h

pub first_row-end : (g : Geometry) → first_row g (stripes_of g) ≡ rows_of g
first_row-end g = first-end g.areas

-- a later stripe begins where the rows of an earlier one have ended
pub stripes-apart : (g : Geometry) (a b : ℕ) → a < b → b < stripes_of g → first_row g a + unit_rows g a ≤ first_row g b
stripes-apart g a b less h = first-apart g.areas a b less h

pub stripe-below : (g : Geometry) (stripe : ℕ) → stripe < stripes_of g → first_row g stripe + unit_rows g stripe ≤ rows_of g
stripe-below g stripe h = stripe-fits g.areas stripe h

-- ---- their sizes

pub some-unit_rows : (g : Geometry) (stripe : ℕ) → IsArray g → stripe < stripes_of g → 1 ≤ unit_rows g stripe
some-unit_rows g stripe is h = unit-some g.areas stripe is.areas h

pub most-unit_rows : (g : Geometry) (stripe : ℕ) → stripe < stripes_of g → unit_rows g stripe ≤ greatest_unit g
most-unit_rows g stripe h = unit-most g.areas stripe

pub some-greatest : (g : Geometry) → IsArray g → 1 ≤ greatest_unit g
some-greatest g is = greatest-some g.areas is.areas is.least_areas

pub most-greatest : (g : Geometry) → IsArray g → greatest_unit g ≤ 4096
most-greatest g is = greatest-most g.areas is.areas

pub some-stripes : (g : Geometry) → IsArray g → 1 ≤ stripes_of g
some-stripes g is = stripes-some g.areas is.areas is.least_areas

pub most-stripes : (g : Geometry) → IsArray g → stripes_of g ≤ 32768
most-stripes g is = omega (arith, stripes-most g.areas is.areas, is.most_areas)

pub most-rows : (g : Geometry) → IsArray g → rows_of g ≤ 134217728
most-rows g is = omega (arith, rows-most g.areas is.areas, is.most_areas)

pub some-rows : (g : Geometry) → IsArray g → 1 ≤ rows_of g
some-rows g is = omega (arith, stripe-below g 0 (some-stripes g is), some-unit_rows g 0 is (some-stripes g is))

pub most-capacity : (g : Geometry) → IsArray g → capacity_of g < 4294967296
most-capacity g is = omega (arith, mul-le (rows_of g) (g.targets - 1) 134217728 31 (most-rows g is) (omega (arith, is.most_targets)))

-- ---- the stripe of a row

pub row-below : (g : Geometry) (stripe row : ℕ) → IsRowOf g stripe row → row < rows_of g
row-below g stripe row at = omega (arith, at.last, stripe-below g stripe at.in_array)

pub row-stripe : (g : Geometry) (row : ℕ) → IsArray g → row < rows_of g → IsRowOf g (stripe_of_row g row) row
row-stripe g row is h =
    let at = row-in g.areas row is.areas h in
    record { in_array = at.in_array; first = at.first; last = at.last }

pub one-stripe : (g : Geometry) (a b row : ℕ) → IsRowOf g a row → IsRowOf g b row → a ≡ b
one-stripe g a b row p q = by_order (cases_order a b)
  where
    by_order : (a ≡ b) ⊎ ((a < b) ⊎ (b < a)) → a ≡ b
    by_order (inl same) = same
    by_order (inr (inl less)) = absurd (omega (arith, p.last, q.first, stripes-apart g a b less q.in_array))
    by_order (inr (inr more)) = absurd (omega (arith, q.last, p.first, stripes-apart g b a more p.in_array))

pub stripe_of_row-at : (g : Geometry) (stripe row : ℕ) → IsArray g → IsRowOf g stripe row → stripe_of_row g row ≡ stripe
stripe_of_row-at g stripe row is at = one-stripe g (stripe_of_row g row) stripe row (row-stripe g row is (row-below g stripe row at)) at

-- the first row of a stripe is one of its rows, and so is each that is so many rows behind one and before its end
pub first-row_of : (g : Geometry) (stripe : ℕ) → IsArray g → stripe < stripes_of g → IsRowOf g stripe (first_row g stripe)
first-row_of g stripe is h = record { in_array = h; first = omega arith; last = omega (arith, some-unit_rows g stripe is h) }

-- ---- parity

pub parity_of-below : (g : Geometry) (stripe : ℕ) → IsArray g → parity_of g stripe < g.targets
parity_of-below g stripe is = omega (arith, is.least_targets)
