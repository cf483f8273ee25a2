use Rattle.std.proofs.Common.{◌≡◌, ◌-◌}
use Rattle.std.specs.Prelude.{filter}
use Rattle.array_journal.specs.Acts.{is_target}
use Rattle.array_journal.specs.May.{shuts_idle}
use Rattle.array_journal.specs.Lists.{numbers}
use Rattle.run_check.specs.NameTests.{names_at}
use Rattle.run_check.proofs.target_names.names_shuts.Given as goal

abbrev pub invariant-loop-target : goal.invariant-loop-target
invariant-loop-target l =
    names_at l.context.past.now l.context.stamp (filter (is_target l.context.setting.now l.command.task.now) (numbers 0 l.context.setting.now.geometry.targets)) (shuts_idle l.command.number) l.names
    ≡ names_at l.context.past.now l.context.stamp (filter (is_target l.context.setting.now l.command.task.now) (numbers l.target (l.context.setting.now.geometry.targets - l.target))) (shuts_idle l.command.number) l.rest
