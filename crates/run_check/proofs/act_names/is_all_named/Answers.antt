use Rattle.std.proofs.Common.{ℕ, sym, ◌∙◌}
use Rattle.run_check.specs.ActNameTests.{is_named_where_due}
use Rattle.run_check.proofs.Numbers.{all-more, all-else}
use Rattle.run_check.proofs.act_names.is_all_named.Goals as goal

pub returns-then-not-is_named_where_due : goal.returns-then-not-is_named_where_due
returns-then-not-is_named_where_due c =
    let p = λ (i : ℕ). is_named_where_due c.args.context.now.setting.now c.args.context.now.past.now c.args.command.now.number c.args.command.now.task.now c.args.act c.args.names.now i in
    sym (all-else p c.loop-target.target c.args.context.now.setting.now.geometry.targets (rw (← c.from-target-end.ensures) c.loop-target-test.true) (sym c.is_named_where_due.ensures ∙ c.if-not-is_named_where_due.true))

pub loop-target-preserved : goal.loop-target-preserved
loop-target-preserved c =
    let p = λ (i : ℕ). is_named_where_due c.args.context.now.setting.now c.args.context.now.past.now c.args.command.now.number c.args.command.now.task.now c.args.act c.args.names.now i in
    all-more p c.loop-target.target (sym c.is_named_where_due.ensures ∙ c.if-not-is_named_where_due.false) c.loop-target.invariant
