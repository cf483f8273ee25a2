-- Which scripts can be run so far: those of one host whose calls are each a read or a write of one piece, in an array in
-- which the controller moves the deltas.
use Rattle.std.specs.Prelude.{◌≡◌, ◌≤◌, ◌+◌, ◌/◌, ℕ, [], length}
use Rattle.std.specs.List.{AllByRecursion}
use Rattle.stripe_layout.specs.Layout.{capacity_of, room_in_unit}
use Rattle.stripe_layout.specs.declared.mode.Mode.TheVariants.{Supervised}
use Rattle.host_scripts.specs.declared.script.Script.{Script}
use Rattle.host_scripts.specs.declared.script.Call.{Call}
use Rattle.host_scripts.specs.declared.script.Action.{Action}
use Rattle.host_scripts.specs.declared.script.Action.TheVariants.{Read, Write}
use Rattle.host_scripts.specs.Scripts.{IsScript}
use Rattle.host_requests.specs.Settings.{most_blocks}

-- so many blocks from this one are one piece within the capacity
pub record AreOnePiece (script : Script) (lba count : ℕ) : Type 0 where
  pub some : 1 ≤ count
  pub most : count ≤ most_blocks script
  pub in_unit : count ≤ room_in_unit script.geometry lba
  pub within : lba + count ≤ capacity_of script.geometry

-- the action is a read or a write of these
abbrev pub CanDo : Script → Action → Type 0
CanDo script (Read lba count) = AreOnePiece script lba count
CanDo script (Write lba bytes) = AreOnePiece script lba (length bytes / script.geometry.block)
CanDo script _ = ⊥

-- a call of the first host
abbrev pub CanCall : Script → Call → Type 0
CanCall script call = (call.host ≡ 0) × CanDo script call.action

-- a script that can be run so far
pub record CanRun (script : Script) : Type 0 where
  pub in_range : IsScript script
  pub supervised : script.mode ≡ Supervised
  pub unordered : script.order ≡ []
  pub calls : AllByRecursion (CanCall script) script.calls
