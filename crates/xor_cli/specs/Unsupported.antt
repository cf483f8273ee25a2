-- The first line of a script that can't be run yet, where every line is spelt: the first line of a script of version 2; the
-- line of a mode in which the controller doesn't take the deltas from the targets that hold them, the line of the first turns,
-- or the line of a call other than a read or a write of the first host that is one piece within the capacity.
use Rattle.std.specs.Prelude.{ℕ, suc, ◌+◌, ◌/◌, ◌==◌, ◌&&◌, not, nat_le, Bool, true, false, if◌then◌else◌, List, [], ◌∷◌, length, Option, Some, None}
use Rattle.stripe_layout.specs.Layout.{capacity_of, room_in_unit}
use Rattle.stripe_layout.specs.declared.mode.Mode.{Mode}
use Rattle.stripe_layout.specs.declared.mode.Mode.TheVariants.{Supervised, ThirdParty, Readback}
use Rattle.host_scripts.specs.declared.script.Script.{Script}
use Rattle.host_scripts.specs.declared.script.Call.{Call}
use Rattle.host_scripts.specs.declared.script.Action.{Action}
use Rattle.host_scripts.specs.declared.script.Action.TheVariants.{Read, Write, Fill, Raw, Lose, Reset, DropNext, Replace, Rebuild, Resync}
use Rattle.host_requests.specs.Settings.{most_blocks}

-- updates of this mode can be run
abbrev pub can_serve_in : Mode → Bool
can_serve_in Supervised = true
can_serve_in ThirdParty = false
can_serve_in Readback = false

-- so many blocks from this one are one piece within the capacity
abbrev pub is_one_piece : Script → ℕ → ℕ → Bool
is_one_piece script lba count =
    nat_le 1 count && nat_le count (most_blocks script) && nat_le (lba + count) (capacity_of script.geometry)
    && nat_le count (room_in_unit script.geometry lba)

-- a read or a write of such blocks
abbrev pub can_do : Script → Action → Bool
can_do script (Read lba count) = is_one_piece script lba count
can_do script (Write lba bytes) = is_one_piece script lba (length bytes / script.geometry.block)
can_do script (Fill lba count byte) = false
can_do script (Raw cdb bytes) = false
can_do script (Lose target) = false
can_do script (Reset target) = false
can_do script (DropNext target) = false
can_do script (Replace target) = false
can_do script (Rebuild target) = false
can_do script Resync = false

-- one of the first host
abbrev pub can_call : Script → Call → Bool
can_call script call = (call.host == 0) && can_do script call.action

-- the line of the first of these calls that can't be run, where they begin on this line
abbrev pub later_call : Script → ℕ → List Call → Option ℕ
later_call script number [] = None
later_call script number (call ∷ calls) = if can_call script call then later_call script (suc number) calls else Some number

-- in a script of version 1 the mode stands on line 8; line 11 is that of the first turns where there are any, and else that
-- of the first call
abbrev pub first_later : Script → Option ℕ
first_later script =
    if not (script.version == 1) then Some 1
    else if not (can_serve_in script.mode) then Some 8
    else if not (length script.order == 0) then Some 11
    else later_call script 11 script.calls
