use Rattle.std.proofs.Common.{ℕ, ap, ◌∙◌}
use Rattle.run_check.specs.CauseTest.{cause_of_loss}
use Rattle.run_check.proofs.cause.is_parity_lost.Goals as goal

pub returns : goal.returns
returns c = c.is_cause_of_loss.ensures ∙ ap (λ (i : ℕ). cause_of_loss c.args.context.now.past.now c.args.context.now.stamp i c.args.cause) c.from.ensures
