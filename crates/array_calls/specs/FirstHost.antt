-- Calls of the first host.
use Rattle.std.specs.Prelude.{◌≡◌}
use Rattle.host_scripts.specs.declared.script.Action.{Action}
use Rattle.host_scripts.specs.declared.script.Action.TheVariants.{Read, Write, Fill, Raw}
use Rattle.host_scripts.specs.declared.script.Call.{Call}

-- blocks are read or written, or a CDB asks it
abbrev pub IsMoved : Action → Type 0
IsMoved (Read lba count) = Unit {0}
IsMoved (Write lba bytes) = Unit {0}
IsMoved (Fill lba count byte) = Unit {0}
IsMoved (Raw cdb bytes) = Unit {0}
IsMoved _ = ⊥

-- a call of the first host
pub record IsOfFirst (call : Call) : Type 0 where
  pub host : call.host ≡ 0
  pub moves : IsMoved call.action
