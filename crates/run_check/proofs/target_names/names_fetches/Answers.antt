use Rattle.std.proofs.Common.{◌<◌, ℕ, List, sym, ap, ◌∙◌}
use Rattle.array_journal.specs.declared.act.Act.TheVariants.{Fetches}
use Rattle.array_journal.specs.Acts.{has_act, is_act}
use Rattle.run_check.specs.NameTests.{names_at}
use Rattle.run_check.proofs.Numbers.{filter-first, filter-next}
use Rattle.run_check.proofs.target_names.names_fetches.Goals as goal
use Rattle.run_check.proofs.target_names.names_fetches.Goals.{then-has_act+in-Some, else-has_act}

pub returns-in-None : goal.returns-in-None
returns-in-None c =
    let lt : c.loop-target.target < c.args.context.now.setting.now.geometry.targets = rw (← c.from-target-end.ensures) c.loop-target-test.true in
    let front = λ (ts : List ℕ). names_at c.args.context.now.past.now c.args.context.now.stamp ts (is_act Fetches c.args.command.now.number) c.loop-target.rest.now in
    sym
    (c.loop-target.invariant ∙ ap front (filter-first (has_act c.args.context.now.setting.now Fetches c.args.command.now.task.now) c.loop-target.target c.args.context.now.setting.now.geometry.targets lt (sym c.has_act.ensures ∙ c.if-has_act.true))
    ∙ c.in-None.ensures _)

pub loop-target-preserved : goal.loop-target-preserved
loop-target-preserved c =
    let lt : c.loop-target.target < c.args.context.now.setting.now.geometry.targets = rw (← c.from-target-end.ensures) c.loop-target-test.true in
    let front = λ (ts : List ℕ). names_at c.args.context.now.past.now c.args.context.now.stamp ts (is_act Fetches c.args.command.now.number) c.loop-target.rest.now in
    elim c.if-has_act.branch [
      | then-has_act+in-Some w ↦
          rw w.rest-is
          (c.loop-target.invariant ∙ ap front (filter-first (has_act c.args.context.now.setting.now Fetches c.args.command.now.task.now) c.loop-target.target c.args.context.now.setting.now.geometry.targets lt (sym c.has_act.ensures ∙ w.if-has_act.true))
          ∙ w.in-Some.ensures _)
      | else-has_act w ↦
          rw w.rest-is
          (c.loop-target.invariant ∙ ap front (filter-next (has_act c.args.context.now.setting.now Fetches c.args.command.now.task.now) c.loop-target.target c.args.context.now.setting.now.geometry.targets lt (sym c.has_act.ensures ∙ w.if-has_act.false)))
    ]
