use Rattle.std.proofs.Common.{◌≡◌, ◌≤◌}
use Rattle.stripe_check.specs.Found.{lost_stripes}
use Rattle.stripe_check.proofs.counts.count_lost.Given as goal

abbrev pub invariant-loop-stripe : goal.invariant-loop-stripe
invariant-loop-stripe l = record {
  count : l.count ≡ lost_stripes l.losses.lost.items l.losses.made.items l.geometry.targets l.stripe;
  small : l.count ≤ l.stripe;
}
