use Rattle.std.proofs.Common.{◌≡◌, ◌≤◌}
use Rattle.stripe_check.specs.Found.{zero_stripes}
use Rattle.stripe_check.proofs.counts.count_zero.Given as goal

abbrev pub invariant-loop-stripe : goal.invariant-loop-stripe
invariant-loop-stripe l = record {
  count : l.count ≡ zero_stripes l.geometry l.media l.losses.lost.items l.losses.made.items l.stripe;
  small : l.count ≤ l.stripe;
}
