-- A sound task's rows are on the media and fit the fields of a CDB.
use Rattle.std.proofs.Common.{◌≡◌, ℕ, ◌*◌, ◌^◌, ◌<◌, length, ap, ◌∙◌, arith}
use Rattle.stripe_layout.specs.Layout.{rows_of}
use Rattle.stripe_layout.proofs.StripeLaws.{most-rows, most-unit_rows, most-greatest}
use Rattle.array_journal.specs.declared.setting.Setting.{Setting}
use Rattle.array_journal.specs.declared.task.Task.{Task}
use Rattle.array_journal.specs.May.{IsTask}
use Rattle.array_journal.specs.Run.{IsSetting}
use Rattle.array_journal.proofs.held.TaskPlaces.{rows-fit, rows-fit_bytes}
use Rattle.xor_cli.specs.Arrays.{Array}
use Rattle.xor_cli.specs.Disks.{disk_of, IsOnDisk}
use Rattle.xor_cli.specs.Rest.{IsAtRest}

pub task-fits : (s : Setting) (task : Task) → IsSetting s → IsTask s task → (task.row < 2 ^ 32) × (task.count < 2 ^ 16)
task-fits s task setting sound = (
  omega (arith, rows-fit s task sound, most-rows s.geometry setting.array),
  omega (arith, sound.from_stripe, sound.to_stripe, most-unit_rows s.geometry task.stripe sound.in_array, most-greatest s.geometry setting.array),
)

-- a task's rows are on the medium of each target of a controller at rest
pub rows-on_disk : (old : Array) (task : Task) (i : ℕ) → IsAtRest old → IsTask old.setting task → i < old.setting.geometry.targets →
    IsOnDisk old.disks i (task.row * old.setting.geometry.block) (task.count * old.setting.geometry.block)
rows-on_disk old task i rest sound below =
    let size : length (disk_of old.disks i).medium ≡ rows_of old.setting.geometry * old.setting.geometry.block =
    ap length (rest.targets.media i below) ∙ rest.calm.quiet.media_size i in
    (omega (arith, rest.targets.count), omega (arith, rows-fit_bytes old.setting task sound))
