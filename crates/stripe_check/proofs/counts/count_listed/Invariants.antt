use Rattle.std.proofs.Common.{◌≡◌, ◌≤◌}
use Rattle.stripe_check.specs.Found.{listed_count}
use Rattle.stripe_check.proofs.counts.count_listed.Given as goal

abbrev pub invariant-loop-stripe : goal.invariant-loop-stripe
invariant-loop-stripe l = record {
  count : l.count ≡ listed_count l.listed l.stripe;
  small : l.count ≤ l.stripe;
}
