-- Commands: from the entry that opens one to the entry that closes or spoils it. Their entries stand at
-- lock 0, the book's.
use Rattle.std.specs.Prelude.{◌==◌, ◌&&◌, ◌||◌, nat_lt, not, ℕ, ◌+◌, Bool, true, false, List, [], ◌∷◌, Option, Some, None, if◌then◌else◌}
use Rattle.array_journal.specs.declared.entry.Entry.{Entry}
use Rattle.array_journal.specs.declared.event.Event.{Event}
use Rattle.array_journal.specs.declared.event.Event.TheVariants.{Open, Close, Spoil}
use Rattle.array_journal.specs.declared.task.Kind.{Kind}
use Rattle.array_journal.specs.declared.task.Kind.TheVariants.{Read, Update, DataOnly, DegradedRead, DegradedWrite, Rebuild, Resync}
use Rattle.array_journal.specs.declared.task.Task.{Task}
use Rattle.array_journal.specs.Entries.{some_at, count_at}

-- the event opens some command
abbrev pub opens : Event → Bool
opens (Open command task) = true
opens _ = false

-- the event opens this command
abbrev pub opens_command : ℕ → Event → Bool
opens_command c (Open command task) = command == c
opens_command c _ = false

-- the event ends this command
abbrev pub ends_command : ℕ → Event → Bool
ends_command c (Close command done names cause bytes) = command == c
ends_command c (Spoil command diff loss shut) = command == c
ends_command c _ = false

-- how many commands were opened
abbrev pub open_count : List Entry → ℕ
open_count past = count_at 0 opens past

-- a command is open from its opening to its end
abbrev pub is_open : ℕ → List Entry → Bool
is_open c past = some_at 0 (opens_command c) past && not (some_at 0 (ends_command c) past)

-- the task that an event gives this command
abbrev pub task_given : ℕ → Event → Option Task
task_given c (Open command task) = if command == c then Some task else None
task_given c _ = None

abbrev pub first_task : Option Task → Option Task → Option Task
first_task (Some task) older = Some task
first_task None older = older

-- the task of a command, that of its opening
abbrev pub task_of : ℕ → List Entry → Option Task
task_of c [] = None
task_of c (e ∷ past) = first_task (if e.lock == 0 then task_given c e.event else None) (task_of c past)

-- commands of these kinds run beside others on their stripe; those of the other kinds run alone
abbrev pub is_shared : Kind → Bool
is_shared Read = true
is_shared Update = true
is_shared DataOnly = true
is_shared DegradedRead = false
is_shared DegradedWrite = false
is_shared Rebuild = false
is_shared Resync = false

-- the shared kinds that write
abbrev pub is_shared_write : Kind → Bool
is_shared_write Update = true
is_shared_write DataOnly = true
is_shared_write Read = false
is_shared_write DegradedRead = false
is_shared_write DegradedWrite = false
is_shared_write Rebuild = false
is_shared_write Resync = false

-- two runs of rows have a row in common
abbrev pub rows_meet : Task → Task → Bool
rows_meet a b = nat_lt a.row (b.row + b.count) && nat_lt b.row (a.row + a.count)

-- One command may not be open beside the other: on one stripe, one of them is to run alone; or both write
-- a common row of one target.
abbrev pub tasks_conflict : Task → Task → Bool
tasks_conflict a b =
    ((a.stripe == b.stripe) && not (is_shared a.kind && is_shared b.kind))
    || (is_shared_write a.kind && is_shared_write b.kind && (a.target == b.target) && rows_meet a b)
