use Rattle.std.proofs.Common.{◌≡◌, ℕ, suc, ap, arith, ◌∙◌}
use Rattle.array_journal.specs.May.{is_own_act}
use Rattle.run_check.proofs.act_names.is_own_act.Goals as goal

pub returns : goal.returns
returns c =
    let e : suc c.from.result ≡ c.args.lock = omega (arith, c.from.ensures) in
    c.is_own_at.ensures ∙ ap (λ (k : ℕ). is_own_act c.args.setting.now c.args.command.now.number c.args.command.now.task.now k c.args.event.now) e
