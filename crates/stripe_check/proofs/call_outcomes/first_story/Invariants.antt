use Rattle.std.proofs.Common.{◌≡◌, [], replicate}
use Rattle.stripe_check.proofs.call_outcomes.first_story.Given as goal

abbrev pub invariant-loop : goal.invariant-loop
invariant-loop l = l.reads.items ≡ replicate l.counter []
