use Rattle.std.proofs.Common.{◌≡◌, false}
use Rattle.stripe_check.specs.Found.{any_lost}
use Rattle.stripe_check.proofs.counts.is_any_lost.Given as goal

abbrev pub invariant-loop-target : goal.invariant-loop-target
invariant-loop-target l = any_lost l.losses.lost.items l.losses.made.items l.target l.stripe ≡ false
