use Rattle.std.proofs.Common.{◌≡◌, true}
use Rattle.std.specs.List.{list_all}
use Rattle.array_journal.specs.Lists.{numbers}
use Rattle.run_check.specs.ActNameTests.{is_named_where_due}
use Rattle.run_check.proofs.act_names.is_all_named.Given as goal

abbrev pub invariant-loop-target : goal.invariant-loop-target
invariant-loop-target l =
    list_all (is_named_where_due l.context.setting.now l.context.past.now l.command.number l.command.task.now l.act l.names) (numbers 0 l.target) ≡ true
