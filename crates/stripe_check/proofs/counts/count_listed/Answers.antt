use Rattle.std.proofs.Common.{ℕ, sym, arith, ◌∙◌}
use Rattle.std.specs.Prelude.{is_some}
use Rattle.dirty_list.specs.Listings.{command_of}
use Rattle.stripe_check.proofs.Counting.{filter-here, filter-else}
use Rattle.stripe_check.proofs.counts.count_listed.Goals as goal
use Rattle.stripe_check.proofs.counts.count_listed.Goals.{then-is_listed, else-is_listed}

pub loop-stripe-preserved : goal.loop-stripe-preserved
loop-stripe-preserved c =
    let p = λ (stripe : ℕ). is_some (command_of stripe c.args.listed.now) in
    elim c.if-is_listed.branch [
      | then-is_listed w ↦ record {
        count = rw w.count-is (filter-here p c.loop-stripe.stripe c.loop-stripe.count (sym c.is_listed.ensures ∙ w.if-is_listed.true) c.loop-stripe.invariant.count);
        small = omega arith;
      }
      | else-is_listed w ↦ record {
        count = rw w.count-is (filter-else p c.loop-stripe.stripe c.loop-stripe.count (sym c.is_listed.ensures ∙ w.if-is_listed.false) c.loop-stripe.invariant.count);
        small = omega arith;
      }
    ]
