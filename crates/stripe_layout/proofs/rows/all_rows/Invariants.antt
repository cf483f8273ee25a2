use Rattle.std.proofs.Common.{◌≡◌, ◌+◌, drop}
use Rattle.stripe_layout.specs.Layout.{rows_in}
use Rattle.stripe_layout.proofs.rows.all_rows.Given as goal

abbrev pub invariant-loop-area : goal.invariant-loop-area
invariant-loop-area l = l.rows + rows_in (drop l.area-index l.areas) ≡ rows_in l.areas
