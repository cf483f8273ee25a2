-- Blocks of one unit stand on rows one after another; all of this follows from what places and blocks are to each other.
use Rattle.std.proofs.Common.{◌≡◌, ℕ, ◌+◌, ◌-◌, ◌<◌, ◌≤◌, ◌⊎◌, inl, inr, ap, sym, ◌∙◌, subst, refl, arith}
use Rattle.std.specs.Prelude.{◌≢◌}
use Rattle.std.proofs.lemmas.Bool.{cases_lt, lt-ltb, le-ltb}
use Rattle.stripe_layout.specs.declared.geometry.Geometry.{Geometry}
use Rattle.stripe_layout.specs.declared.geometry.Place.{Place}
use Rattle.stripe_layout.specs.Layout.{IsArray, IsRowOf, capacity_of, stripe_of, unit_of, row_of, room_in_unit, lba_at, place_of, parity_of, target_of_unit, greatest_unit, first_row, unit_rows}
use Rattle.stripe_layout.specs.Laws.{StandsAt}
use Rattle.stripe_layout.proofs.PlaceLaws.{stripe_of-below, unit_of-below, offset-below, room-is, row_of-stripe, lba_at-place, lba_at-stands, lba_at-next}
use Rattle.stripe_layout.proofs.StripeLaws.{most-unit_rows}

-- two rows of data units that are one block are one
pub same-place : (g : Geometry) (a i r b j q : ℕ) → IsArray g → i < g.targets - 1 → j < g.targets - 1 → IsRowOf g a r → IsRowOf g b q →
    lba_at g a i r ≡ lba_at g b j q → (a ≡ b) × ((i ≡ j) × (r ≡ q))
same-place g a i r b j q is h k at to e =
    let x = lba_at-stands g a i r is h at in
    let y = lba_at-stands g b j q is k to in
    (sym x.stripe_is ∙ ap (stripe_of g) e ∙ y.stripe_is, (sym x.unit_is ∙ ap (unit_of g) e ∙ y.unit_is, sym x.row_is ∙ ap (row_of g) e ∙ y.row_is))

-- ---- what is left of a unit

pub some-room : (g : Geometry) (lba : ℕ) → IsArray g → lba < capacity_of g → 1 ≤ room_in_unit g lba
some-room g lba is h = omega (arith, room-is g lba is h, offset-below g lba is h)

pub most-room : (g : Geometry) (lba : ℕ) → IsArray g → lba < capacity_of g → room_in_unit g lba ≤ greatest_unit g
most-room g lba is h = omega (arith, room-is g lba is h, most-unit_rows g (stripe_of g lba) (stripe_of-below g lba is h))

-- a block that stands so many behind another, in its unit
pub in-room : (g : Geometry) (lba j : ℕ) → IsArray g → lba < capacity_of g → j < room_in_unit g lba → IsRowOf g (stripe_of g lba) (row_of g lba + j)
in-room g lba j is h k = record { in_array = stripe_of-below g lba is h; first = omega arith; last = omega (arith, room-is g lba is h, offset-below g lba is h) }

pub stands-behind : (g : Geometry) (lba j : ℕ) → IsArray g → lba < capacity_of g → j < room_in_unit g lba →
    StandsAt g (lba + j) (stripe_of g lba) (unit_of g lba) (row_of g lba + j)
stands-behind g lba j is h k =
    subst (λ x. StandsAt g x (stripe_of g lba) (unit_of g lba) (row_of g lba + j)) block
    (lba_at-stands g (stripe_of g lba) (unit_of g lba) (row_of g lba + j) is (unit_of-below g lba is h) (in-room g lba j is h k))
  where
    block : lba_at g (stripe_of g lba) (unit_of g lba) (row_of g lba + j) ≡ lba + j
    block =
        lba_at-next g (stripe_of g lba) (unit_of g lba) (row_of g lba) j (row_of-stripe g lba is h) (in-room g lba j is h k)
        ∙ ap (λ x. x + j) (lba_at-place g lba is h)

-- so many blocks further so much less is left
pub room-behind : (g : Geometry) (lba j : ℕ) → IsArray g → lba < capacity_of g → j < room_in_unit g lba →
    (lba + j < capacity_of g) × (room_in_unit g (lba + j) ≡ room_in_unit g lba - j)
room-behind g lba j is h k =
    let at = stands-behind g lba j is h k in
    let first : first_row g (stripe_of g (lba + j)) ≡ first_row g (stripe_of g lba) = ap (first_row g) at.stripe_is in
    let unit : unit_rows g (stripe_of g (lba + j)) ≡ unit_rows g (stripe_of g lba) = ap (unit_rows g) at.stripe_is in
    (at.below, omega (arith, room-is g (lba + j) is at.below, room-is g lba is h, first, unit, at.row_is, k))

-- what is left of a unit is within the capacity
pub room-below : (g : Geometry) (lba : ℕ) → IsArray g → lba < capacity_of g → lba + room_in_unit g lba ≤ capacity_of g
room-below g lba is h =
    let last = stands-behind g lba (room_in_unit g lba - 1) is h (omega (arith, some-room g lba is h)) in
    omega (arith, last.below, some-room g lba is h)

place-from : (g : Geometry) (lba stripe unit row : ℕ) → StandsAt g lba stripe unit row →
    place_of g lba ≡ record { stripe = stripe; target = target_of_unit g stripe unit; parity = parity_of g stripe; row = row }
place-from g lba stripe unit row at =
    ap (λ s. built s (unit_of g lba) (row_of g lba)) at.stripe_is
    ∙ ap (λ u. built stripe u (row_of g lba)) at.unit_is
    ∙ ap (λ r. built stripe unit r) at.row_is
  where
    built : ℕ → ℕ → ℕ → Place
    built s u r = record { stripe = s; target = target_of_unit g s u; parity = parity_of g s; row = r }

-- the blocks that are left of a unit stand on rows one after another
pub place-behind : (g : Geometry) (lba j : ℕ) → IsArray g → lba < capacity_of g → j < room_in_unit g lba →
    place_of g (lba + j) ≡ record { stripe = stripe_of g lba; target = target_of_unit g (stripe_of g lba) (unit_of g lba); parity = parity_of g (stripe_of g lba); row = row_of g lba + j }
place-behind g lba j is h k = place-from g (lba + j) (stripe_of g lba) (unit_of g lba) (row_of g lba + j) (stands-behind g lba j is h k)

-- ---- targets

pub target_of-below : (g : Geometry) (stripe unit : ℕ) → IsArray g → unit < g.targets - 1 → target_of_unit g stripe unit < g.targets
target_of-below g stripe unit is h = by_order (cases_lt unit (parity_of g stripe))
  where
    by_order : (unit < parity_of g stripe) ⊎ (parity_of g stripe ≤ unit) → target_of_unit g stripe unit < g.targets
    by_order (inl less) = rw (lt-ltb unit (parity_of g stripe) less) (omega (arith, h))
    by_order (inr more) = rw (le-ltb unit (parity_of g stripe) more) (omega (arith, h))

-- no data unit stands on the parity target
pub target_of-other : (g : Geometry) (stripe unit : ℕ) → target_of_unit g stripe unit ≢ parity_of g stripe
target_of-other g stripe unit e = by_order (cases_lt unit (parity_of g stripe))
  where
    by_order : (unit < parity_of g stripe) ⊎ (parity_of g stripe ≤ unit) → ⊥
    by_order (inl less) =
        let same : target_of_unit g stripe unit ≡ unit = rw (lt-ltb unit (parity_of g stripe) less) refl in omega (arith, same, e, less)
    by_order (inr more) =
        let same : target_of_unit g stripe unit ≡ unit + 1 = rw (le-ltb unit (parity_of g stripe) more) refl in omega (arith, same, e, more)
