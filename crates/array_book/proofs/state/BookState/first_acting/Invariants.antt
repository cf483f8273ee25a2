use Rattle.std.proofs.Common.{◌≡◌, drop, reverse}
use Rattle.array_journal.specs.Acts.{is_target}
use Rattle.array_book.specs.OpenCommands.{open_commands, open_tasks}
use Rattle.array_book.specs.OpenTasks.{first_of, first_open}
use Rattle.array_book.proofs.state.BookState.first_acting.Given as goal

abbrev pub invariant-loop-place : goal.invariant-loop-place
invariant-loop-place l =
    first_open (λ task. is_target l.setting task l.target) (reverse l.entries)
    ≡ first_of (λ task. is_target l.setting task l.target) (drop l.place (open_commands (reverse l.entries))) (drop l.place (open_tasks (reverse l.entries)))
