use Rattle.std.proofs.Common.{◌≡◌, drop}
use Rattle.run_check.specs.ActNameTests.{each_own}
use Rattle.run_check.proofs.act_names.is_each_own.Given as goal

abbrev pub invariant-loop-name : goal.invariant-loop-name
invariant-loop-name l = each_own l.context.setting.now l.context.past.now l.context.stamp l.command.number l.command.task.now l.names ≡ each_own l.context.setting.now l.context.past.now l.context.stamp l.command.number l.command.task.now (drop l.name-index l.names)
