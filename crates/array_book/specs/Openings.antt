-- Where the opening of each command stands. A list called past has the newest entry first; a place counts entries
-- from the oldest, from 0.
use Rattle.std.specs.Prelude.{◌≡◌, ◌==◌, ◌&&◌, ℕ, List, [], ◌∷◌, Option, Some, None, length, if◌then◌else◌}
use Rattle.array_journal.specs.declared.entry.Entry.{Entry}
use Rattle.array_journal.specs.declared.event.Event.{Event}
use Rattle.array_journal.specs.declared.event.Event.TheVariants.{Open}
use Rattle.array_journal.specs.declared.task.Task.{Task}
use Rattle.array_journal.specs.Commands.{opens_command, open_count}
use Rattle.array_book.specs.declared.commands.openings.Openings.{Openings}
use Rattle.array_book.specs.Numbered.{value_of}

-- where the newest opening of a command stands
abbrev pub opening_place : ℕ → List Entry → Option ℕ
opening_place c [] = None
opening_place c (e ∷ past) = if (e.lock == 0) && opens_command c e.event then Some (length past) else opening_place c past

-- the newest opening of each command, and how many openings there are
pub record KeepsOpenings (past : List Entry) (part : Openings) : Type 0 where
  pub places : (c : ℕ) → value_of part.places c ≡ opening_place c past
  pub counted : part.count ≡ open_count past

-- the task of an opening
abbrev pub task_in : Event → Option Task
task_in (Open command task) = Some task
task_in _ = None

-- the task of the opening that an entry is
abbrev pub opened_task : Option Entry → Option Task
opened_task None = None
opened_task (Some e) = task_in e.event
