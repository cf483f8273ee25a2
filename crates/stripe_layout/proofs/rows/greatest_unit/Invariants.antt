use Rattle.std.proofs.Common.{◌≡◌, max, drop}
use Rattle.stripe_layout.specs.Layout.{greatest_unit_in}
use Rattle.stripe_layout.proofs.rows.greatest_unit.Given as goal

abbrev pub invariant-loop-area : goal.invariant-loop-area
invariant-loop-area l = max l.greatest (greatest_unit_in (drop l.area-index l.areas)) ≡ greatest_unit_in l.areas
