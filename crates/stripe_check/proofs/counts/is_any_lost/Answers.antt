use Rattle.std.proofs.Common.{◌≡◌, true, false, sym, ◌∙◌}
use Rattle.stripe_check.specs.AbsentUnits.{is_lost}
use Rattle.stripe_check.proofs.Counting.{any-here, any-more}
use Rattle.stripe_check.proofs.counts.is_any_lost.Goals as goal

pub returns-then-is_absent : goal.returns-then-is_absent
returns-then-is_absent c =
    let here : is_lost c.args.losses.now.lost.items c.args.losses.now.made.items c.loop-target.target c.args.stripe ≡ true
    = rw (← c.from.ensures) (sym c.is_absent.ensures ∙ c.if-is_absent.true) in
    sym (any-here (λ i. is_lost c.args.losses.now.lost.items c.args.losses.now.made.items i c.args.stripe) c.loop-target.target c.args.targets c.loop-target-test.true here)

pub loop-target-preserved : goal.loop-target-preserved
loop-target-preserved c =
    let here : is_lost c.args.losses.now.lost.items c.args.losses.now.made.items c.loop-target.target c.args.stripe ≡ false
    = rw (← c.from.ensures) (sym c.is_absent.ensures ∙ c.if-is_absent.false) in
    any-more (λ i. is_lost c.args.losses.now.lost.items c.args.losses.now.made.items i c.args.stripe) c.loop-target.target here c.loop-target.invariant
