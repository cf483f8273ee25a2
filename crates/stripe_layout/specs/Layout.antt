-- Where the blocks of a parity array stand: left-asymmetric, one parity unit in each stripe, in areas one behind another
-- with units of their own size.
use Rattle.std.specs.Prelude.{ℕ, ◌+◌, ◌-◌, ◌*◌, ◌/◌, ◌%◌, ◌≤◌, ◌<◌, nat_lt, max, if◌then◌else◌, List, [], ◌∷◌, length}
use Rattle.std.specs.List.{AllByRecursion}
use Rattle.stripe_layout.specs.declared.areas.Area.{Area}
use Rattle.stripe_layout.specs.declared.geometry.Geometry.{Geometry}
use Rattle.stripe_layout.specs.declared.geometry.Place.{Place}

-- ---- ranges

-- 1 to 4096 blocks a unit, and stripes
pub record IsArea (a : Area) : Type 0 where
  pub least_unit : 1 ≤ a.unit
  pub most_unit : a.unit ≤ 4096
  pub least_stripes : 1 ≤ a.stripes
  pub most_stripes : a.stripes ≤ 4096

-- 3 to 32 targets, 1 to 4096 bytes a block, and 1 to 8 areas
pub record IsArray (g : Geometry) : Type 0 where
  pub least_targets : 3 ≤ g.targets
  pub most_targets : g.targets ≤ 32
  pub least_block : 1 ≤ g.block
  pub most_block : g.block ≤ 4096
  pub least_areas : 1 ≤ length g.areas
  pub most_areas : length g.areas ≤ 8
  pub areas : AllByRecursion IsArea g.areas

-- ---- stripes and their rows: those of an area come behind those of the areas before it

abbrev pub stripes_in : List Area → ℕ
stripes_in [] = 0
stripes_in (a ∷ more) = a.stripes + stripes_in more

abbrev pub rows_in : List Area → ℕ
rows_in [] = 0
rows_in (a ∷ more) = a.stripes * a.unit + rows_in more

abbrev pub first_row_in : List Area → ℕ → ℕ
first_row_in [] stripe = 0
first_row_in (a ∷ more) stripe =
    if nat_lt stripe a.stripes then stripe * a.unit else a.stripes * a.unit + first_row_in more (stripe - a.stripes)

abbrev pub unit_rows_in : List Area → ℕ → ℕ
unit_rows_in [] stripe = 0
unit_rows_in (a ∷ more) stripe = if nat_lt stripe a.stripes then a.unit else unit_rows_in more (stripe - a.stripes)

abbrev pub greatest_unit_in : List Area → ℕ
greatest_unit_in [] = 0
greatest_unit_in (a ∷ more) = max a.unit (greatest_unit_in more)

abbrev pub stripe_of_row_in : List Area → ℕ → ℕ
stripe_of_row_in [] row = 0
stripe_of_row_in (a ∷ more) row =
    if nat_lt row (a.stripes * a.unit) then row / a.unit else a.stripes + stripe_of_row_in more (row - a.stripes * a.unit)

-- the stripes of all areas
abbrev pub stripes_of : Geometry → ℕ
stripes_of g = stripes_in g.areas

-- the rows of each target
abbrev pub rows_of : Geometry → ℕ
rows_of g = rows_in g.areas

-- the row that a stripe begins with, on each target; behind the last stripe that is the end of the rows
abbrev pub first_row : Geometry → ℕ → ℕ
first_row g stripe = first_row_in g.areas stripe

-- how many rows a stripe has: the blocks of each of its units; a stripe that isn't there has none
abbrev pub unit_rows : Geometry → ℕ → ℕ
unit_rows g stripe = unit_rows_in g.areas stripe

abbrev pub greatest_unit : Geometry → ℕ
greatest_unit g = greatest_unit_in g.areas

abbrev pub stripe_of_row : Geometry → ℕ → ℕ
stripe_of_row g row = stripe_of_row_in g.areas row

-- a row is one of a stripe's
pub record IsRowOf (g : Geometry) (stripe row : ℕ) : Type 0 where
  pub in_array : stripe < stripes_of g
  pub first : first_row g stripe ≤ row
  pub last : row < first_row g stripe + unit_rows g stripe

-- The target of the parity unit: the last one in stripe 0, and one before in each stripe after it. A stripe is told by its
-- number over all areas.
abbrev pub parity_of : Geometry → ℕ → ℕ
parity_of g stripe = g.targets - 1 - stripe % g.targets

-- ---- blocks

-- the blocks that a host sees
abbrev pub capacity_of : Geometry → ℕ
capacity_of g = rows_of g * (g.targets - 1)

-- the stripe of a block: a row has one block of data less than there are targets
abbrev pub stripe_of : Geometry → ℕ → ℕ
stripe_of g lba = stripe_of_row g (lba / (g.targets - 1))

-- how many blocks of its stripe stand before a block
abbrev pub offset_in_stripe : Geometry → ℕ → ℕ
offset_in_stripe g lba = lba - first_row g (stripe_of g lba) * (g.targets - 1)

-- which of the stripe's data units a block is in
abbrev pub unit_of : Geometry → ℕ → ℕ
unit_of g lba = offset_in_stripe g lba / unit_rows g (stripe_of g lba)

-- how many blocks of its unit stand before a block
abbrev pub offset_in_unit : Geometry → ℕ → ℕ
offset_in_unit g lba = offset_in_stripe g lba % unit_rows g (stripe_of g lba)

-- how many blocks of its unit stand from a block on, itself counted
abbrev pub room_in_unit : Geometry → ℕ → ℕ
room_in_unit g lba = unit_rows g (stripe_of g lba) - offset_in_unit g lba

-- the target of a data unit: the parity unit's place is passed over
abbrev pub target_of_unit : Geometry → ℕ → ℕ → ℕ
target_of_unit g stripe unit = if nat_lt unit (parity_of g stripe) then unit else unit + 1

abbrev pub target_of : Geometry → ℕ → ℕ
target_of g lba = target_of_unit g (stripe_of g lba) (unit_of g lba)

-- the row of a block, on its target and on the parity target
abbrev pub row_of : Geometry → ℕ → ℕ
row_of g lba = first_row g (stripe_of g lba) + offset_in_unit g lba

-- the block of a data unit that stands on a row of its stripe
abbrev pub lba_at : Geometry → ℕ → ℕ → ℕ → ℕ
lba_at g stripe unit row = first_row g stripe * (g.targets - 1) + unit * unit_rows g stripe + (row - first_row g stripe)

-- where a block stands
abbrev pub place_of : Geometry → ℕ → Place
place_of g lba = record {
  stripe = stripe_of g lba;
  target = target_of g lba;
  parity = parity_of g (stripe_of g lba);
  row = row_of g lba;
}
