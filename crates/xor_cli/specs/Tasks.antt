-- The tasks of calls of one piece, and what a controller makes of such a call.
use Rattle.std.specs.Prelude.{◌<◌, ◌/◌, ℕ, List, [], length}
use Rattle.stripe_layout.specs.declared.geometry.Geometry.{Geometry}
use Rattle.stripe_layout.specs.Layout.{capacity_of, stripe_of, target_of, parity_of, row_of}
use Rattle.host_scripts.specs.declared.script.Action.{Action}
use Rattle.host_scripts.specs.declared.script.Action.TheVariants as actions
use Rattle.array_journal.specs.declared.setting.Setting.{Setting}
use Rattle.array_journal.specs.declared.task.Kind.{Kind}
use Rattle.array_journal.specs.declared.task.Kind.TheVariants.{Read, Update}
use Rattle.array_journal.specs.declared.task.Task.{Task}
use Rattle.xor_cli.specs.Arrays.{Array}
use Rattle.xor_cli.specs.Rest.{IsServable, IsServed}

-- the task of blocks of one unit, for a call of this number
abbrev pub task_at : Geometry → ℕ → Kind → ℕ → ℕ → List ℕ → Task
task_at g number kind lba count bytes = record {
  call = number;
  piece = 0;
  kind = kind;
  stripe = stripe_of g lba;
  target = target_of g lba;
  parity = parity_of g (stripe_of g lba);
  row = row_of g lba;
  count = count;
  bytes = bytes;
}

abbrev pub read_task : Geometry → ℕ → ℕ → ℕ → Task
read_task g number lba count = task_at g number Read lba count []

abbrev pub write_task : Geometry → ℕ → ℕ → List ℕ → Task
write_task g number lba bytes = task_at g number Update lba (length bytes / g.block) bytes

-- a call of this number is a read or a write of blocks that a controller at rest serves at once
abbrev pub CanServe : Setting → ℕ → Action → Type 0
CanServe s number (actions.Read lba count) = (lba < capacity_of s.geometry) × IsServable s (read_task s.geometry number lba count)
CanServe s number (actions.Write lba bytes) = (lba < capacity_of s.geometry) × IsServable s (write_task s.geometry number lba bytes)
CanServe s number _ = ⊥

-- it was served by a command with its task
abbrev pub HasServed : Array → Array → ℕ → Action → Type 0
HasServed old new number (actions.Read lba count) = IsServed old new (read_task old.setting.geometry number lba count)
HasServed old new number (actions.Write lba bytes) = IsServed old new (write_task old.setting.geometry number lba bytes)
HasServed old new number _ = ⊥
