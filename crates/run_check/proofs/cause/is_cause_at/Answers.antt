use Rattle.std.proofs.Common.{◌≡◌, ℕ, suc, ap, arith, ◌∙◌}
use Rattle.run_check.specs.CauseTest.{cause_at}
use Rattle.run_check.proofs.cause.is_cause_at.Goals as goal

pub returns : goal.returns
returns c =
    let e : suc c.from.result ≡ c.args.cause.lock = omega (arith, c.from.ensures) in
    c.is_cause_in.ensures ∙ ap (λ (k : ℕ). cause_at c.args.context.now.setting.now c.args.context.now.past.now c.args.context.now.stamp c.args.task.now c.args.cause k) e
