-- The pieces of whole units have numbers of their own, as blocks have: they are laid out as the blocks of an array
-- whose units are as long as a unit has pieces.
use Rattle.std.specs.Prelude.{ℕ, zero, suc, ◌+◌, ◌-◌, ◌*◌, ◌/◌, min, map}
use Rattle.stripe_layout.specs.declared.areas.Area.{Area}
use Rattle.stripe_layout.specs.declared.geometry.Geometry.{Geometry}
use Rattle.stripe_layout.specs.Layout.{first_row, stripe_of, unit_of, offset_in_unit, room_in_unit, lba_at}

-- how many pieces of at most so many blocks there are of blocks of one unit
abbrev pub pieces_in : ℕ → ℕ → ℕ
pieces_in max blocks = (blocks + (max - 1)) / max

abbrev pub area_pieces : ℕ → Area → Area
area_pieces max a = record { unit = pieces_in max a.unit; stripes = a.stripes }

abbrev pub in_pieces : Geometry → ℕ → Geometry
in_pieces g max = record { targets = g.targets; block = g.block; areas = map (area_pieces max) g.areas }

-- the number of the piece that a block is in, of those that are cut from the start of each unit on
abbrev pub number_of : Geometry → ℕ → ℕ → ℕ
number_of g max lba =
    lba_at (in_pieces g max) (stripe_of g lba) (unit_of g lba) (first_row (in_pieces g max) (stripe_of g lba) + offset_in_unit g lba / max)

-- the block that the piece of a number begins with
abbrev pub begin_of : Geometry → ℕ → ℕ → ℕ
begin_of g max number =
    lba_at g (stripe_of (in_pieces g max) number) (unit_of (in_pieces g max) number)
    (first_row g (stripe_of (in_pieces g max) number) + offset_in_unit (in_pieces g max) number * max)

-- the block that a piece begins with, so many pieces behind one that begins here
abbrev pub walk : Geometry → ℕ → ℕ → ℕ → ℕ
walk g max lba zero = lba
walk g max lba (suc n) = walk g max (lba + min (room_in_unit g lba) max) n
