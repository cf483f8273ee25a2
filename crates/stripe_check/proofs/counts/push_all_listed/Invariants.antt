use Rattle.std.proofs.Common.{◌≡◌, ◌++◌}
use Rattle.stripe_check.specs.Found.{listed_lines}
use Rattle.stripe_check.proofs.counts.push_all_listed.Given as goal

abbrev pub invariant-loop-stripe : goal.invariant-loop-stripe
invariant-loop-stripe l =
    l.text ≡ l.initial.text ++ listed_lines l.commands l.listed l.stripe
