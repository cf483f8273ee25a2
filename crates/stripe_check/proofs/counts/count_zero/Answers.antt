use Rattle.std.proofs.Common.{sym, arith, ◌∙◌}
use Rattle.stripe_check.specs.Found.{is_whole}
use Rattle.stripe_check.proofs.Counting.{filter-here, filter-else}
use Rattle.stripe_check.proofs.counts.count_zero.Goals as goal
use Rattle.stripe_check.proofs.counts.count_zero.Goals.{then-whole, else-whole}

pub loop-stripe-preserved : goal.loop-stripe-preserved
loop-stripe-preserved c =
    let p = is_whole c.args.geometry.now c.args.media.now c.args.losses.now.lost.items c.args.losses.now.made.items in
    elim c.if-whole.branch [
      | then-whole w ↦ record {
        count = rw w.count-is (filter-here p c.loop-stripe.stripe c.loop-stripe.count (sym c.in_ok-whole.ensures ∙ w.if-whole.true) c.loop-stripe.invariant.count);
        small = omega arith;
      }
      | else-whole w ↦ record {
        count = rw w.count-is (filter-else p c.loop-stripe.stripe c.loop-stripe.count (sym c.in_ok-whole.ensures ∙ w.if-whole.false) c.loop-stripe.invariant.count);
        small = omega arith;
      }
    ]
