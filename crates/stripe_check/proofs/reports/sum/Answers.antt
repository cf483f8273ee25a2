use Rattle.std.proofs.Common.{sym, ap, ◌∙◌}
use Rattle.stripe_check.specs.Found.{stripe_total}
use Rattle.stripe_check.proofs.Settings.{sum-of-shape}
use Rattle.stripe_check.proofs.reports.sum.Goals as goal

pub returns : goal.returns
returns c = λ s h.
    c.into_bytes.ensures
    ∙ c.in_ok-stripe_sum.ensures
    ∙ ap (λ media. stripe_total c.args.geometry.now media c.args.stripe) c.deref.ensures.value
    ∙ sum-of-shape _ s _ c.in_ok-media.media.items c.args.stripe (sym h) c.in_ok-media.ensures
