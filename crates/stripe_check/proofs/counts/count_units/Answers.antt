use Rattle.std.proofs.Common.{◌≡◌, true, false, sym, arith, ◌∙◌}
use Rattle.stripe_check.specs.AbsentUnits.{is_lost}
use Rattle.stripe_check.proofs.Counting.{filter-here, filter-else}
use Rattle.stripe_check.proofs.counts.count_units.Goals as goal
use Rattle.stripe_check.proofs.counts.count_units.Goals.{then-is_absent, else-is_absent}

pub loop-stripe-preserved : goal.loop-stripe-preserved
loop-stripe-preserved c =
    let p = is_lost c.args.losses.now.lost.items c.args.losses.now.made.items c.args.target in
    elim c.if-is_absent.branch [
      | then-is_absent w ↦
          let here : is_lost c.args.losses.now.lost.items c.args.losses.now.made.items c.args.target c.loop-stripe.stripe ≡ true
          = rw (← c.from.ensures) (sym c.is_absent.ensures ∙ w.if-is_absent.true) in
          record {
            count = rw w.count-is (filter-here p c.loop-stripe.stripe c.loop-stripe.count here c.loop-stripe.invariant.count);
            small = omega arith;
          }
      | else-is_absent w ↦
          let here : is_lost c.args.losses.now.lost.items c.args.losses.now.made.items c.args.target c.loop-stripe.stripe ≡ false
          = rw (← c.from.ensures) (sym c.is_absent.ensures ∙ w.if-is_absent.false) in
          record {
            count = rw w.count-is (filter-else p c.loop-stripe.stripe c.loop-stripe.count here c.loop-stripe.invariant.count);
            small = omega arith;
          }
    ]
