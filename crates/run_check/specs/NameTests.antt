-- What is asked of entries that an entry names, as tests.
use Rattle.std.specs.Prelude.{◌==◌, ◌&&◌, ◌+◌, nat_lt, ℕ, Bool, true, false, List, [], ◌∷◌, Option, Some, None, if◌then◌else◌}
use Rattle.array_journal.specs.declared.at.At.{At}
use Rattle.array_journal.specs.declared.entry.Entry.{Entry}
use Rattle.array_journal.specs.declared.event.Event.{Event}
use Rattle.array_journal.specs.declared.event.Event.TheVariants.{Open}
use Rattle.array_journal.specs.declared.task.Task.{Task}
use Rattle.array_journal.specs.Commands.{is_open, task_of}
use Rattle.array_journal.specs.Entries.{at_lt, entry_at}
use Rattle.array_journal.specs.May.{passes}

-- the task that an event gives a command, if there is one
abbrev pub task_in : ℕ → Option Event → Option Task
task_in c (Some (Open command task)) = if command == c then Some task else None
task_in c _ = None

-- the task of the command that an entry of the book opens, which is named and has a smaller stamp
abbrev pub opened_task : List Entry → ℕ → ℕ → At → Option Task
opened_task past stamp c opened = if (opened.lock == 0) && nat_lt opened.stamp stamp then task_in c (entry_at opened past) else None

-- the task of a command that is open
abbrev pub open_task : List Entry → ℕ → Option Task
open_task past c = if is_open c past then task_of c past else None

-- an entry of this name stands with a smaller stamp, and passes
abbrev pub names : List Entry → ℕ → At → (Event → Bool) → Bool
names past stamp name test = passes test (entry_at name past) && nat_lt name.stamp stamp

-- the names are of one entry each that passes, at these targets in turn
abbrev pub names_at : List Entry → ℕ → List ℕ → (Event → Bool) → List At → Bool
names_at past stamp [] test [] = true
names_at past stamp [] test (name ∷ rest) = false
names_at past stamp (i ∷ targets) test [] = false
names_at past stamp (i ∷ targets) test (name ∷ rest) =
    ((name.lock == i + 1) && names past stamp name test) && names_at past stamp targets test rest

-- a name comes after another, where there is one
abbrev pub comes_after : Option At → At → Bool
comes_after None name = true
comes_after (Some last) name = at_lt last name

-- the names rise strictly, after a last one
abbrev pub rise_after : Option At → List At → Bool
rise_after last [] = true
rise_after last (name ∷ rest) = comes_after last name && rise_after (Some name) rest
