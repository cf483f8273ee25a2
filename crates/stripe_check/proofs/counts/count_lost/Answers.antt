use Rattle.std.proofs.Common.{sym, arith, ◌∙◌}
use Rattle.stripe_check.specs.Found.{any_lost}
use Rattle.stripe_check.proofs.Counting.{filter-here, filter-else}
use Rattle.stripe_check.proofs.counts.count_lost.Goals as goal
use Rattle.stripe_check.proofs.counts.count_lost.Goals.{then-is_any_lost, else-is_any_lost}

pub loop-stripe-preserved : goal.loop-stripe-preserved
loop-stripe-preserved c =
    let p = any_lost c.args.losses.now.lost.items c.args.losses.now.made.items c.args.geometry.now.targets in
    elim c.if-is_any_lost.branch [
      | then-is_any_lost w ↦ record {
        count = rw w.count-is (filter-here p c.loop-stripe.stripe c.loop-stripe.count (sym c.is_any_lost.ensures ∙ w.if-is_any_lost.true) c.loop-stripe.invariant.count);
        small = omega arith;
      }
      | else-is_any_lost w ↦ record {
        count = rw w.count-is (filter-else p c.loop-stripe.stripe c.loop-stripe.count (sym c.is_any_lost.ensures ∙ w.if-is_any_lost.false) c.loop-stripe.invariant.count);
        small = omega arith;
      }
    ]
