use Rattle.std.proofs.Common.{◌≡◌, ◌+◌, drop}
use Rattle.stripe_layout.specs.Layout.{stripes_in}
use Rattle.stripe_layout.proofs.rows.all_stripes.Given as goal

abbrev pub invariant-loop-area : goal.invariant-loop-area
invariant-loop-area l = l.stripes + stripes_in (drop l.area-index l.areas) ≡ stripes_in l.areas
