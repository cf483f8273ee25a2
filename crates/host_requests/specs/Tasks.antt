-- Whether a task is at the places of an aim.
use Rattle.std.specs.Prelude.{ℕ, ◌==◌, ◌&&◌, Bool}
use Rattle.array_journal.specs.declared.task.Task.{Task}
use Rattle.host_requests.specs.Begins.{Aim}

-- a task has the places of an aim
abbrev pub same_places : Aim → ℕ → Task → Bool
same_places aim parity task = (aim.stripe == task.stripe) && (aim.target == task.target) && (parity == task.parity) && (aim.row == task.row) && (aim.count == task.count)
