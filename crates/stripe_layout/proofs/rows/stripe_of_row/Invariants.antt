use Rattle.std.proofs.Common.{◌≡◌, ◌+◌, ◌≤◌, drop}
use Rattle.stripe_layout.specs.Layout.{stripes_in, rows_in, stripe_of_row_in}
use Rattle.stripe_layout.proofs.rows.stripe_of_row.Given as goal

abbrev pub invariant-loop-area : goal.invariant-loop-area
invariant-loop-area l = record {
  rows : rows_in (drop l.area-index l.areas) ≤ rows_in l.areas;
  stripes : l.stripe + stripes_in (drop l.area-index l.areas) ≡ stripes_in l.areas;
  found : l.stripe + stripe_of_row_in (drop l.area-index l.areas) l.left ≡ stripe_of_row_in l.areas l.row;
}
