-- What is asked of the tasks of open commands, the oldest first.
use Rattle.std.specs.Prelude.{ℕ, Bool, false, List, [], ◌∷◌, Option, Some, None, if◌then◌else◌}
use Rattle.array_journal.specs.declared.entry.Entry.{Entry}
use Rattle.array_journal.specs.declared.setting.Setting.{Setting}
use Rattle.array_journal.specs.declared.task.Task.{Task}
use Rattle.array_journal.specs.Decision.{holds_at}
use Rattle.array_book.specs.declared.commands.open_commands.OpenCommand.{OpenCommand}
use Rattle.array_book.specs.OpenCommands.{open_commands, open_tasks}

-- a test of a task, if there is one
abbrev pub passes_task : (Task → Bool) → Option Task → Bool
passes_task test None = false
passes_task test (Some task) = test task

-- the blocks that a command of a task, if there is one, holds at target i
abbrev pub held_where : Setting → ℕ → Option Task → ℕ
held_where s i None = 0
held_where s i (Some task) = if holds_at s i task then task.count else 0

-- the first of some commands whose task passes
abbrev pub first_of : (Task → Bool) → List OpenCommand → List Task → Option ℕ
first_of test [] tasks = None
first_of test (c ∷ commands) [] = None
first_of test (c ∷ commands) (task ∷ tasks) = if test task then Some c.command else first_of test commands tasks

-- the open command, of those whose task passes, that was opened first
abbrev pub first_open : (Task → Bool) → List Entry → Option ℕ
first_open test past = first_of test (open_commands past) (open_tasks past)
