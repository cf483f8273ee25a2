use Rattle.std.proofs.Common.{ℕ, ap, ◌++◌, ◌∙◌}
use Rattle.dirty_list.specs.Listings.{command_of}
use Rattle.stripe_check.specs.Found.{listed_line}
use Rattle.stripe_check.proofs.Counting.{said-more}
use Rattle.stripe_check.proofs.counts.push_all_listed.Goals as goal

pub loop-stripe-preserved : goal.loop-stripe-preserved
loop-stripe-preserved c =
    let line = λ (s : ℕ). listed_line c.args.commands.now s (command_of s c.args.listed.now) in
    said-more line c.loop-stripe.stripe c.args.text.now c.loop-stripe.text c.push_listed.new.text c.loop-stripe.invariant
    (c.in_ok-push_listed.ensures ∙ ap (λ o. c.loop-stripe.text ++ listed_line c.args.commands.now c.loop-stripe.stripe o) c.find.ensures)
