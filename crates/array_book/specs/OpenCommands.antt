-- Openings whose commands are open, in the order of the journal. Lists called past have the newest entry first; a place
-- counts entries from the oldest, from 0.
use Rattle.std.specs.Prelude.{◌≡◌, ◌==◌, ◌++◌, ℕ, Bool, List, [], ◌∷◌, length, if◌then◌else◌}
use Rattle.array_journal.specs.declared.entry.Entry.{Entry}
use Rattle.array_journal.specs.declared.event.Event.{Event}
use Rattle.array_journal.specs.declared.event.Event.TheVariants.{Open}
use Rattle.array_journal.specs.declared.task.Task.{Task}
use Rattle.array_journal.specs.Commands.{ends_command}
use Rattle.array_journal.specs.Entries.{some_at}
use Rattle.array_book.specs.declared.commands.open_commands.OpenCommand.{OpenCommand}
use Rattle.array_book.specs.declared.commands.open_commands.OpenCommands.{OpenCommands}

-- some entry ends the command
abbrev pub has_ended : List Entry → ℕ → Bool
has_ended past c = some_at 0 (ends_command c) past

-- the opening that an event at a place is, where its command didn't end
abbrev pub open_by : (ℕ → Bool) → ℕ → Event → List OpenCommand
open_by ended place (Open command task) = if ended command then [] else record { command = command; place = place } ∷ []
open_by ended place _ = []

abbrev pub open_in : (ℕ → Bool) → List Entry → List OpenCommand
open_in ended [] = []
open_in ended (e ∷ past) = open_in ended past ++ (if e.lock == 0 then open_by ended (length past) e.event else [])

-- the openings whose commands are open
abbrev pub open_commands : List Entry → List OpenCommand
open_commands past = open_in (has_ended past) past

abbrev pub KeepsOpen : List Entry → OpenCommands → Type 0
KeepsOpen past part = part.openings.items ≡ open_commands past

-- the task of the opening that an event is, where its command didn't end
abbrev pub task_by : (ℕ → Bool) → Event → List Task
task_by ended (Open command task) = if ended command then [] else task ∷ []
task_by ended _ = []

abbrev pub tasks_in : (ℕ → Bool) → List Entry → List Task
tasks_in ended [] = []
tasks_in ended (e ∷ past) = tasks_in ended past ++ (if e.lock == 0 then task_by ended e.event else [])

-- the tasks of the openings whose commands are open
abbrev pub open_tasks : List Entry → List Task
open_tasks past = tasks_in (has_ended past) past
