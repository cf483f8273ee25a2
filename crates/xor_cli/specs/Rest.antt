-- A controller between two calls, and what serving a piece makes of it.
use Rattle.std.specs.Prelude.{◌≡◌, ◌<◌, ◌≤◌, ◌⊎◌, ℕ, List, length, reverse}
use Rattle.stripe_layout.specs.declared.mode.Mode.TheVariants.{Supervised}
use Rattle.array_journal.specs.declared.entry.Entry.{Entry}
use Rattle.array_journal.specs.declared.task.Task.{Task}
use Rattle.array_journal.specs.declared.setting.Setting.{Setting}
use Rattle.array_journal.specs.Commands.{open_count}
use Rattle.array_journal.specs.Media.{media}
use Rattle.array_journal.specs.May.{IsTask}
use Rattle.array_journal.specs.Run.{IsSetting}
use Rattle.array_journal.specs.Calm.{Calm}
use Rattle.array_journal.specs.Serving.{read_entries, update_entries}
use Rattle.sbc_cdbs.specs.declared.descriptor.Cdb.{Cdb}
use Rattle.xor_cli.specs.Disks.{Disk, disk_of}
use Rattle.xor_cli.specs.Arrays.{Array}

-- the targets have the media of the journal
pub record HasMedia (s : Setting) (disks : List Disk) (past : List Entry) : Type 0 where
  pub count : length disks ≡ s.geometry.targets
  pub media : (i : ℕ) → i < s.geometry.targets → (disk_of disks i).medium ≡ media s i past

-- no command is open, and targets and book are as the journal says
pub record IsRest (s : Setting) (commands : ℕ) (journal : List Entry) (disks : List Disk) : Type 0 where
  pub setting : IsSetting s
  pub supervised : s.mode ≡ Supervised
  pub calm : Calm s (reverse journal)
  pub counted : commands ≡ open_count (reverse journal)
  pub targets : HasMedia s disks (reverse journal)

abbrev pub IsAtRest : Array → Type 0
IsAtRest a = IsRest a.setting a.commands a.journal a.disks

-- a task that a controller at rest serves at once: blocks that fit its buffers
pub record IsServable (s : Setting) (task : Task) : Type 0 where
  pub sound : IsTask s task
  pub fits : task.count ≤ s.buffer

-- the entries of a read or of an update with this task came after others, the newest entry first
abbrev pub IsAnswer : Setting → Task → List Entry → List Entry → Type 0
IsAnswer s task past later =
    ((cdb : Cdb) × (later ≡ read_entries s past task cdb))
    ⊎ ((diff : Cdb) × ((take : Cdb) × ((fold : Cdb) × (later ≡ update_entries s past task diff take fold))))

-- a command with this task was served, and the controller is at rest again
pub record IsServed (old new : Array) (task : Task) : Type 0 where
  pub rest : IsAtRest new
  pub setting : new.setting ≡ old.setting
  pub answered : IsAnswer old.setting task (reverse old.journal) (reverse new.journal)
