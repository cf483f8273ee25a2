use Rattle.std.proofs.Common.{ℕ, ap, ◌++◌, ◌∙◌}
use Rattle.stripe_layout.specs.Layout.{stripes_of}
use Rattle.stripe_check.specs.Found.{lost_units}
use Rattle.stripe_check.specs.Reports.{absent_text}
use Rattle.stripe_check.proofs.Counting.{said-more}
use Rattle.stripe_check.proofs.counts.push_all_absent.Goals as goal

pub loop-target-preserved : goal.loop-target-preserved
loop-target-preserved c =
    let line = λ (i : ℕ). absent_text i (lost_units c.args.losses.now.lost.items c.args.losses.now.made.items (stripes_of c.args.geometry.now) i) in
    said-more line c.loop-target.target c.args.text.now c.loop-target.text c.push_absent.new.text c.loop-target.invariant
    (c.in_ok-push_absent.ensures
    ∙ ap (λ n. c.loop-target.text ++ absent_text c.loop-target.target n)
    (c.count_units.ensures ∙ ap (λ n. lost_units c.args.losses.now.lost.items c.args.losses.now.made.items n c.loop-target.target) c.stripes-stripes.ensures.value))
