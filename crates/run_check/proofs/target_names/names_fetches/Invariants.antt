use Rattle.std.proofs.Common.{◌≡◌, ◌-◌}
use Rattle.std.specs.Prelude.{filter}
use Rattle.array_journal.specs.declared.act.Act.TheVariants.{Fetches}
use Rattle.array_journal.specs.Acts.{has_act, is_act}
use Rattle.array_journal.specs.Lists.{numbers}
use Rattle.run_check.specs.NameTests.{names_at}
use Rattle.run_check.proofs.target_names.names_fetches.Given as goal

abbrev pub invariant-loop-target : goal.invariant-loop-target
invariant-loop-target l =
    names_at l.context.past.now l.context.stamp (filter (has_act l.context.setting.now Fetches l.command.task.now) (numbers 0 l.context.setting.now.geometry.targets)) (is_act Fetches l.command.number) l.names
    ≡ names_at l.context.past.now l.context.stamp (filter (has_act l.context.setting.now Fetches l.command.task.now) (numbers l.target (l.context.setting.now.geometry.targets - l.target))) (is_act Fetches l.command.number) l.rest
