use Rattle.std.proofs.Common.{◌≡◌, ◌++◌}
use Rattle.stripe_layout.specs.Layout.{stripes_of}
use Rattle.stripe_check.specs.Found.{lost_lines}
use Rattle.stripe_check.proofs.counts.push_all_absent.Given as goal

abbrev pub invariant-loop-target : goal.invariant-loop-target
invariant-loop-target l =
    l.text ≡ l.initial.text ++ lost_lines l.losses.lost.items l.losses.made.items l.target (stripes_of l.geometry)
