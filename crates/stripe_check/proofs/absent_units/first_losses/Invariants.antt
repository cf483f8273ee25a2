use Rattle.std.proofs.Common.{◌≡◌, replicate}
use Rattle.stripe_layout.specs.Layout.{stripes_of}
use Rattle.stripe_check.proofs.absent_units.first_losses.Given as goal

abbrev pub invariant-loop : goal.invariant-loop
invariant-loop l = record {
  lost : l.lost.items ≡ replicate l.counter 0;
  made : l.made.items ≡ replicate l.counter (replicate (stripes_of l.geometry) 0);
}
