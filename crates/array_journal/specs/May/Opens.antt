-- Which opening of a command may follow a journal, and what is true of each task.
use Rattle.std.specs.Prelude.{◌≡◌, ◌<◌, ◌≤◌, ℕ, ◌+◌, ◌≢◌, true, false, List, [], length}
use Rattle.stripe_layout.specs.Layout.{parity_of, stripes_of, first_row, unit_rows}
use Rattle.array_journal.specs.declared.entry.Entry.{Entry}
use Rattle.array_journal.specs.declared.setting.Setting.{Setting}
use Rattle.array_journal.specs.declared.task.Kind.{Kind}
use Rattle.array_journal.specs.declared.task.Kind.TheVariants.{Read, Update, DataOnly, DegradedRead, DegradedWrite, Rebuild, Resync}
use Rattle.array_journal.specs.declared.task.Task.{Task}
use Rattle.array_journal.specs.Entries.{some_at}
use Rattle.array_journal.specs.Commands.{open_count}
use Rattle.array_journal.specs.Acts.{task_bytes}
use Rattle.array_journal.specs.declared.decision.Decision.TheVariants.{Opens}
use Rattle.array_journal.specs.Decision.{want_of, decision, opens_conflict, has_room}

-- what is true of the tasks of a kind: a rebuild and a resync take all rows of the stripe, a resync at its parity
-- target; the other kinds are about a data unit; those that write a host's blocks have these
abbrev pub IsTaskOfKind : Setting → Task → Kind → Type 0
IsTaskOfKind s task Read = (task.target ≢ task.parity) × (task.bytes ≡ [])
IsTaskOfKind s task DegradedRead = (task.target ≢ task.parity) × (task.bytes ≡ [])
IsTaskOfKind s task Update = (task.target ≢ task.parity) × (length task.bytes ≡ task_bytes s task)
IsTaskOfKind s task DataOnly = (task.target ≢ task.parity) × (length task.bytes ≡ task_bytes s task)
IsTaskOfKind s task DegradedWrite = (task.target ≢ task.parity) × (length task.bytes ≡ task_bytes s task)
IsTaskOfKind s task Rebuild = (task.row ≡ first_row s.geometry task.stripe) × (task.count ≡ unit_rows s.geometry task.stripe) × (task.bytes ≡ [])
IsTaskOfKind s task Resync =
    (task.row ≡ first_row s.geometry task.stripe) × (task.count ≡ unit_rows s.geometry task.stripe) × (task.bytes ≡ []) × (task.target ≡ task.parity)

-- what is true of each task: its rows are rows of its stripe
pub record IsTask (s : Setting) (task : Task) : Type 0 where
  pub in_array : task.stripe < stripes_of s.geometry
  pub parity : task.parity ≡ parity_of s.geometry task.stripe
  pub target : task.target < s.geometry.targets
  pub some_rows : 1 ≤ task.count
  pub from_stripe : first_row s.geometry task.stripe ≤ task.row
  pub to_stripe : task.row + task.count ≤ first_row s.geometry task.stripe + unit_rows s.geometry task.stripe
  pub by_kind : IsTaskOfKind s task task.kind

-- Open: commands are numbered as they are opened; the kind is what the book decides; nothing open stands in the
-- way, and the buffer has room.
pub record MayOpen (s : Setting) (past : List Entry) (c : ℕ) (task : Task) : Type 0 where
  pub numbered : c ≡ open_count past
  pub sound : IsTask s task
  pub decided : decision s (want_of task.kind) task.stripe task.target past ≡ Opens task.kind
  pub alone : some_at 0 (opens_conflict past task) past ≡ false
  pub room : has_room s task past ≡ true
