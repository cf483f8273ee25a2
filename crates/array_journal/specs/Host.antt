-- What hosts were told: reads, writes and refusals in their order, and the one plain list of sectors that they
-- speak of.
use Rattle.std.specs.Prelude.{◌≡◌, nat_lt, ℕ, ◌-◌, ◌*◌, Bool, true, false, List, [], ◌∷◌, ◌++◌, length, Option, Some, None, if◌then◌else◌}
use Rattle.blocks_core.specs.Xor.{zeros}
use Rattle.stripe_layout.specs.declared.geometry.Geometry.{Geometry}
use Rattle.stripe_layout.specs.Layout.{capacity_of, lba_at}
use Rattle.array_journal.specs.declared.entry.Entry.{Entry}
use Rattle.array_journal.specs.declared.event.Event.{Event}
use Rattle.array_journal.specs.declared.event.Event.TheVariants.{Fetch, Put, Diff, Close, Refuse}
use Rattle.array_journal.specs.declared.event.Why.{Why}
use Rattle.array_journal.specs.declared.task.Kind.{Kind}
use Rattle.array_journal.specs.declared.task.Kind.TheVariants.{Read, DataOnly, DegradedRead, DegradedWrite}
use Rattle.array_journal.specs.declared.task.Task.{Task}
use Rattle.blocks_core.specs.Lists.{slice, put}
use Rattle.array_journal.specs.Commands.{task_of}

-- an item of what hosts were told; lba is the first block's
pub data HostItem : Type 0 where
  ReadItem : (call piece lba : ℕ) (bytes : List ℕ) → HostItem
  WroteItem : (call piece lba : ℕ) (bytes : List ℕ) → HostItem
  RefusedItem : (call piece : ℕ) (why : Why) → HostItem

-- which data unit of its stripe a target has: the parity target is passed over
abbrev pub unit_at : ℕ → ℕ → ℕ
unit_at parity target = if nat_lt target parity then target else target - 1

-- the first block of a task of reading or writing
abbrev pub task_lba : Geometry → Task → ℕ
task_lba g task = lba_at g task.stripe (unit_at task.parity task.target) task.row

abbrev pub is_read : Kind → Bool
is_read Read = true
is_read _ = false

abbrev pub is_degraded_read : Kind → Bool
is_degraded_read DegradedRead = true
is_degraded_read _ = false

-- the kinds that write by a put for a host
abbrev pub is_put_write : Kind → Bool
is_put_write DataOnly = true
is_put_write DegradedWrite = true
is_put_write _ = false

abbrev pub read_item : Geometry → Task → List ℕ → HostItem
read_item g task bytes = ReadItem task.call task.piece (task_lba g task) bytes

abbrev pub wrote_item : Geometry → Task → HostItem
wrote_item g task = WroteItem task.call task.piece (task_lba g task) task.bytes

-- What the hosts were told by an event of a command with this task: a read at its fetch, a degraded read at its
-- close as done, a write at the diff of an update or at the put of the two kinds that put a host's blocks.
abbrev pub told_by : Geometry → Event → Option Task → List HostItem
told_by g (Fetch command opened cdb row bytes) (Some task) = if is_read task.kind then read_item g task bytes ∷ [] else []
told_by g (Close command true names cause bytes) (Some task) = if is_degraded_read task.kind then read_item g task bytes ∷ [] else []
told_by g (Diff command opened cdb row bytes sent dropped back) (Some task) = wrote_item g task ∷ []
told_by g (Put command opened cdb row bytes names) (Some task) = if is_put_write task.kind then wrote_item g task ∷ [] else []
told_by g (Refuse call piece why) task = RefusedItem call piece why ∷ []
told_by g _ task = []

-- the command that an event of a host item belongs to
abbrev pub teller : Event → Option ℕ
teller (Fetch command opened cdb row bytes) = Some command
teller (Close command done names cause bytes) = Some command
teller (Diff command opened cdb row bytes sent dropped back) = Some command
teller (Put command opened cdb row bytes names) = Some command
teller _ = None

abbrev pub teller_task : Option ℕ → List Entry → Option Task
teller_task None past = None
teller_task (Some c) past = task_of c past

-- what the hosts were told, the newest first
abbrev pub host : Geometry → List Entry → List HostItem
host g [] = []
host g (e ∷ past) = told_by g e.event (teller_task (teller e.event) past) ++ host g past

-- the sectors after an item: a write replaces its own
abbrev pub sectors_after : Geometry → HostItem → List ℕ → List ℕ
sectors_after g (WroteItem call piece lba bytes) old = put old (lba * g.block) bytes
sectors_after g (ReadItem call piece lba bytes) old = old
sectors_after g (RefusedItem call piece why) old = old

-- the one plain list of sectors after what hosts were told, zeros at first
abbrev pub plain : Geometry → List HostItem → List ℕ
plain g [] = zeros (capacity_of g * g.block)
plain g (item ∷ past) = sectors_after g item (plain g past)

-- an item read what stood in the sectors
abbrev pub ReadRight : Geometry → HostItem → List ℕ → Type 0
ReadRight g (ReadItem call piece lba bytes) sectors = bytes ≡ slice sectors (lba * g.block) (length bytes)
ReadRight g (WroteItem call piece lba bytes) sectors = Unit {0}
ReadRight g (RefusedItem call piece why) sectors = Unit {0}

-- each read's bytes are the plain sectors of the items before it
abbrev pub Legal : Geometry → List HostItem → Type 0
Legal g [] = Unit {0}
Legal g (item ∷ past) = ReadRight g item (plain g past) × Legal g past
