use Rattle.std.proofs.Common.{◌≡◌, ◌≤◌}
use Rattle.stripe_check.specs.Found.{lost_units}
use Rattle.stripe_check.proofs.counts.count_units.Given as goal

abbrev pub invariant-loop-stripe : goal.invariant-loop-stripe
invariant-loop-stripe l = record {
  count : l.count ≡ lost_units l.losses.lost.items l.losses.made.items l.stripe l.target;
  small : l.count ≤ l.stripe;
}
