use Rattle.std.proofs.Common.{◌≡◌, take}
use Rattle.std.specs.List.{list_any}
use Rattle.array_journal.specs.Acts.{is_target}
use Rattle.array_book.specs.OpenCommands.{open_tasks}
use Rattle.run_check.proofs.swap.is_in_use.Given as goal

abbrev pub invariant-loop-place : goal.invariant-loop-place
invariant-loop-place l = l.found ≡ list_any (λ task. is_target l.setting task l.slot) (take l.place (open_tasks l.past))
