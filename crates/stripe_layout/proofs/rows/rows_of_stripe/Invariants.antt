use Rattle.std.proofs.Common.{◌≡◌, ◌+◌, drop}
use Rattle.stripe_layout.specs.Layout.{rows_in, first_row_in, unit_rows_in}
use Rattle.stripe_layout.proofs.rows.rows_of_stripe.Given as goal

abbrev pub invariant-loop-area : goal.invariant-loop-area
invariant-loop-area l = record {
  rows : l.first + rows_in (drop l.area-index l.areas) ≡ rows_in l.areas;
  first : l.first + first_row_in (drop l.area-index l.areas) l.left ≡ first_row_in l.areas l.stripe;
  count : unit_rows_in (drop l.area-index l.areas) l.left ≡ unit_rows_in l.areas l.stripe;
}
