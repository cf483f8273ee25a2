use Rattle.std.proofs.Common.{◌<◌, ℕ, List, sym, ap, ◌∙◌}
use Rattle.array_journal.specs.Acts.{is_target}
use Rattle.array_journal.specs.May.{shuts_idle}
use Rattle.run_check.specs.NameTests.{names_at}
use Rattle.run_check.proofs.Numbers.{filter-first, filter-next}
use Rattle.run_check.proofs.target_names.names_shuts.Goals as goal
use Rattle.run_check.proofs.target_names.names_shuts.Goals.{then-is_target+in-Some, else-is_target}

pub returns-in-None : goal.returns-in-None
returns-in-None c =
    let lt : c.loop-target.target < c.args.context.now.setting.now.geometry.targets = rw (← c.from-target-end.ensures) c.loop-target-test.true in
    let front = λ (ts : List ℕ). names_at c.args.context.now.past.now c.args.context.now.stamp ts (shuts_idle c.args.command.now.number) c.loop-target.rest.now in
    sym
    (c.loop-target.invariant ∙ ap front (filter-first (is_target c.args.context.now.setting.now c.args.command.now.task.now) c.loop-target.target c.args.context.now.setting.now.geometry.targets lt (sym c.is_target.ensures ∙ c.if-is_target.true))
    ∙ c.in-None.ensures _)

pub loop-target-preserved : goal.loop-target-preserved
loop-target-preserved c =
    let lt : c.loop-target.target < c.args.context.now.setting.now.geometry.targets = rw (← c.from-target-end.ensures) c.loop-target-test.true in
    let front = λ (ts : List ℕ). names_at c.args.context.now.past.now c.args.context.now.stamp ts (shuts_idle c.args.command.now.number) c.loop-target.rest.now in
    elim c.if-is_target.branch [
      | then-is_target+in-Some w ↦
          rw w.rest-is
          (c.loop-target.invariant ∙ ap front (filter-first (is_target c.args.context.now.setting.now c.args.command.now.task.now) c.loop-target.target c.args.context.now.setting.now.geometry.targets lt (sym c.is_target.ensures ∙ w.if-is_target.true))
          ∙ w.in-Some.ensures _)
      | else-is_target w ↦
          rw w.rest-is
          (c.loop-target.invariant ∙ ap front (filter-next (is_target c.args.context.now.setting.now c.args.command.now.task.now) c.loop-target.target c.args.context.now.setting.now.geometry.targets lt (sym c.is_target.ensures ∙ w.if-is_target.false)))
    ]
