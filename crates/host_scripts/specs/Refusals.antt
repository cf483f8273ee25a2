-- Which line of bytes that spell no script is refused, and for what: the scripts in form, whose numbers are of any size, and
-- those in range too.
use Rattle.std.specs.Prelude.{ℕ, ◌≡◌, ◌^◌, ◌<◌, List, length}
use Rattle.std.specs.List.{AllByRecursion}
use Rattle.stripe_layout.specs.declared.geometry.Geometry.{Geometry}
use Rattle.host_scripts.specs.declared.script.Script.{Script}
use Rattle.host_scripts.specs.declared.script.Call.{Call}
use Rattle.host_scripts.specs.declared.script.Action.{Action}
use Rattle.host_scripts.specs.declared.script.Action.TheVariants.{Read, Write, Fill, Raw, Lose, Reset, DropNext, Replace, Rebuild, Resync}
use Rattle.host_scripts.specs.declared.script.Cause.{Cause}
use Rattle.host_scripts.specs.declared.script.ScriptFault.{ScriptFault}
use Rattle.text_fields.specs.Spelling.{AreBytes}
use Rattle.host_scripts.specs.Scripts.{script_lines, IsRaw, IsVersion, IsRangedWith, IsScript, SpellsScript}
use Rattle.host_scripts.specs.FirstRefusals.{Grammar, IsFirstRefusal, RefusesFirst}

-- bytes are bytes, and a CDB has at least one
abbrev pub IsFormedAction : Action → Type 0
IsFormedAction (Read lba count) = Unit {0}
IsFormedAction (Write lba bytes) = AreBytes bytes
IsFormedAction (Fill lba count byte) = byte < 256
IsFormedAction (Raw cdb bytes) = IsRaw cdb bytes
IsFormedAction (Lose target) = Unit {0}
IsFormedAction (Reset target) = Unit {0}
IsFormedAction (DropNext target) = Unit {0}
IsFormedAction (Replace target) = Unit {0}
IsFormedAction (Rebuild target) = Unit {0}
IsFormedAction Resync = Unit {0}

-- a call of a host that has a letter
abbrev pub IsFormedCall : Call → Type 0
IsFormedCall call = (call.host < 26) × IsFormedAction call.action

-- a script whose numbers are of any size, its areas' number too
pub record IsFormed (s : Script) : Type 0 where
  pub version : IsVersion s.version s.geometry.areas
  pub maxima : length s.maxima ≡ 3
  pub order : AllByRecursion (λ h. h < 26) s.order
  pub calls : AllByRecursion IsFormedCall s.calls

-- the numbers of an action are in range, and a write has any bytes
abbrev pub IsRangedAction : Geometry → Action → Type 0
IsRangedAction g (Read lba count) = (lba < 2 ^ 32) × (count < 2 ^ 16)
IsRangedAction g (Write lba bytes) = (lba < 2 ^ 32) × AreBytes bytes
IsRangedAction g (Fill lba count byte) = (lba < 2 ^ 32) × (count < 2 ^ 16) × (byte < 256)
IsRangedAction g (Raw cdb bytes) = IsRaw cdb bytes
IsRangedAction g (Lose target) = target < g.targets
IsRangedAction g (Reset target) = target < g.targets
IsRangedAction g (DropNext target) = target < g.targets
IsRangedAction g (Replace target) = target < g.targets
IsRangedAction g (Rebuild target) = target < g.targets
IsRangedAction g Resync = Unit {0}

-- the same of a call of one of the hosts
abbrev pub IsRangedCall : Script → Call → Type 0
IsRangedCall s call = (call.host < s.hosts) × IsRangedAction s.geometry call.action

-- a script in range, whose writes have any bytes
abbrev pub IsRanged : Script → Type 0
IsRanged s = IsRangedWith IsRangedCall s

-- the grammar of scripts
abbrev pub script_grammar : Grammar Script
script_grammar = record { lines = script_lines; spells = SpellsScript; formed = IsFormed; ranged = IsRanged; allowed = IsScript }

-- the bytes spell no script, and this is the first line that is refused and its first cause
abbrev pub IsRefusal : List ℕ → ℕ → Cause → Type 0
IsRefusal bytes number cause = IsFirstRefusal script_grammar bytes number cause

-- want of memory says nothing of the bytes
abbrev pub Refuses : List ℕ → ScriptFault → Type 0
Refuses bytes fault = RefusesFirst script_grammar bytes fault
