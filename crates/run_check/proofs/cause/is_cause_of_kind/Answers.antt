use Rattle.std.proofs.Common.{ℕ, ap, ◌∙◌}
use Rattle.run_check.specs.CauseTest.{cause_before}
use Rattle.run_check.proofs.cause.is_cause_of_kind.Goals as goal

pub returns-in-Rebuild : goal.returns-in-Rebuild
returns-in-Rebuild c =
    rw c.in-Rebuild.is (c.is_cause_before.ensures ∙ ap (λ (i : ℕ). cause_before c.args.context.now.past.now c.args.context.now.stamp i c.args.cause) c.from.ensures)
