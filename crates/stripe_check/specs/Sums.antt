-- What the units of a stripe come to, and which stripes have lost one.
use Rattle.std.specs.Prelude.{ℕ, ◌*◌, ◌&&◌, not, Bool, List, length, map, filter}
use Rattle.std.specs.List.{list_any}
use Rattle.blocks_core.specs.Xor.{xor_all, is_zero}
use Rattle.stripe_layout.specs.declared.geometry.Geometry.{Geometry}
use Rattle.array_journal.specs.declared.entry.Entry.{Entry}
use Rattle.array_journal.specs.declared.setting.Setting.{Setting}
use Rattle.blocks_core.specs.Lists.{slice}
use Rattle.stripe_layout.specs.Layout.{stripes_of, first_row, unit_rows}
use Rattle.array_journal.specs.Lists.{numbers}
use Rattle.array_journal.specs.Media.{rows_on}
use Rattle.array_journal.specs.Lives.{is_absent}

-- the bytes of a unit of a stripe
abbrev pub unit_bytes : Geometry → ℕ → ℕ
unit_bytes g stripe = unit_rows g stripe * g.block

-- a stripe's rows on target i
abbrev pub unit_on : Setting → List Entry → ℕ → ℕ → List ℕ
unit_on s past stripe i = rows_on s i past (first_row s.geometry stripe) (unit_bytes s.geometry stripe)

-- the exclusive-or of a stripe's rows over all targets
abbrev pub sum_of : Setting → List Entry → ℕ → List ℕ
sum_of s past stripe = xor_all (unit_bytes s.geometry stripe) (map (unit_on s past stripe) (numbers 0 s.geometry.targets))

-- so many bytes from a place on, of each medium
abbrev pub parts_on : ℕ → ℕ → List (List ℕ) → List (List ℕ)
parts_on at len media = map (λ m. slice m at len) media

-- the targets whose unit of a stripe is absent
abbrev pub has_absent : Setting → List Entry → ℕ → Bool
has_absent s past stripe = list_any (λ i. is_absent i stripe past) (numbers 0 s.geometry.targets)

-- how many stripes pass
abbrev pub stripes_that : Setting → (ℕ → Bool) → ℕ
stripes_that s test = length (filter test (numbers 0 (stripes_of s.geometry)))

-- no unit of a stripe is absent, and its rows come to zero
abbrev pub is_balanced : Setting → List Entry → ℕ → Bool
is_balanced s past stripe = not (has_absent s past stripe) && is_zero (sum_of s past stripe)

-- how many units of target i are absent
abbrev pub absent_units : Setting → List Entry → ℕ → ℕ
absent_units s past i = stripes_that s (λ stripe. is_absent i stripe past)
