-- What a script is, and the bytes that spell it.
use Rattle.std.specs.Prelude.{ℕ, ◌≡◌, ◌+◌, ◌*◌, ◌^◌, ◌<◌, ◌≤◌, ◌==◌, ◌⊎◌, if◌then◌else◌, List, [], ◌∷◌, ◌++◌, length, get_or, map, codes}
use Rattle.std.specs.List.{flat_map, AllByRecursion}
use Rattle.blocks_core.specs.Blocks.{AreWhole}
pub use Rattle.text_fields.specs.Spelling.{line, numeral, nibble, hex, hex_or_dash}
use Rattle.text_fields.specs.Spelling.{AreBytes}
use Rattle.stripe_layout.specs.Layout.{IsArray, greatest_unit}
use Rattle.stripe_layout.specs.declared.areas.Area.{Area}
use Rattle.stripe_layout.specs.declared.geometry.Geometry.{Geometry}
use Rattle.stripe_layout.specs.declared.mode.Mode.{Mode}
use Rattle.stripe_layout.specs.declared.mode.Mode.TheVariants.{Supervised, ThirdParty, Readback}
use Rattle.host_scripts.specs.declared.script.Script.{Script}
use Rattle.host_scripts.specs.declared.script.Call.{Call}
use Rattle.host_scripts.specs.declared.script.Action.{Action}
use Rattle.host_scripts.specs.declared.script.Action.TheVariants.{Read, Write, Fill, Raw, Lose, Reset, DropNext, Replace, Rebuild, Resync}

-- the letter of a host
abbrev pub letter : ℕ → ℕ
letter host = 65 + host

-- the line of a mode
abbrev pub mode_text : Mode → List ℕ
mode_text Supervised = codes "mode supervised"
mode_text ThirdParty = codes "mode thirdparty"
mode_text Readback = codes "mode readback"

-- the three maxima, parted by spaces
abbrev pub maxima_text : ℕ → ℕ → ℕ → List ℕ
maxima_text w g r = codes "maxima " ++ (numeral w ++ 32 ∷ (numeral g ++ 32 ∷ numeral r))

-- a CDB and the bytes sent with it
abbrev pub raw_text : List ℕ → List ℕ → List ℕ
raw_text cdb bytes = codes "cdb " ++ (hex cdb ++ 32 ∷ hex_or_dash bytes)

-- what stands behind a host's letter
abbrev pub action_text : Action → List ℕ
action_text (Read lba count) = codes "read " ++ (numeral lba ++ 32 ∷ numeral count)
action_text (Write lba bytes) = codes "write " ++ (numeral lba ++ 32 ∷ hex_or_dash bytes)
action_text (Fill lba count byte) = codes "fill " ++ (numeral lba ++ 32 ∷ (numeral count ++ 32 ∷ hex (byte ∷ [])))
action_text (Raw cdb bytes) = raw_text cdb bytes
action_text (Lose target) = codes "lose " ++ numeral target
action_text (Reset target) = codes "reset " ++ numeral target
action_text (DropNext target) = codes "drop " ++ numeral target
action_text (Replace target) = codes "replace " ++ numeral target
action_text (Rebuild target) = codes "rebuild " ++ numeral target
action_text Resync = codes "resync"

-- a host's letter and what it asks
abbrev pub call_text : Call → List ℕ
call_text call = letter call.host ∷ 32 ∷ action_text call.action

-- the letters of the hosts that have the first turns; no turns are no line
abbrev pub order_texts : List ℕ → List (List ℕ)
order_texts [] = []
order_texts (h ∷ hosts) = (codes "order " ++ map letter (h ∷ hosts)) ∷ []

-- the first line
abbrev pub version_text : ℕ → List ℕ
version_text version = if version == 2 then codes "xorscript 2" else codes "xorscript 1"

-- the line of an area: the blocks of its unit, and its stripes
abbrev pub area_text : Area → List ℕ
area_text a = codes "area " ++ (numeral a.unit ++ 32 ∷ numeral a.stripes)

-- the one area of an array, with a line for each of its numbers
abbrev pub single_texts : List Area → List (List ℕ)
single_texts [] = []
single_texts (a ∷ more) = (codes "unit " ++ numeral a.unit) ∷ (codes "stripes " ++ numeral a.stripes) ∷ []

-- how many areas there are, and a line for each of them
abbrev pub several_texts : List Area → List (List ℕ)
several_texts areas = (codes "areas " ++ numeral (length areas)) ∷ map area_text areas

abbrev pub areas_texts : ℕ → List Area → List (List ℕ)
areas_texts version areas = if version == 2 then several_texts areas else single_texts areas

-- the version and the array's shape
abbrev pub shape_texts : ℕ → Geometry → List (List ℕ)
shape_texts version g =
    version_text version
    ∷ (codes "targets " ++ numeral g.targets)
    ∷ (codes "block " ++ numeral g.block)
    ∷ areas_texts version g.areas

-- what each target starts with, and how the hosts run
abbrev pub start_texts : Script → List (List ℕ)
start_texts s =
    (codes "buffer " ++ numeral s.buffer)
    ∷ maxima_text (get_or s.maxima 0 0) (get_or s.maxima 1 0) (get_or s.maxima 2 0)
    ∷ mode_text s.mode
    ∷ (codes "seed " ++ numeral s.seed)
    ∷ (codes "hosts " ++ numeral s.hosts)
    ∷ []

-- the lines of a script, each without its end
abbrev pub script_lines : Script → List (List ℕ)
script_lines s = shape_texts s.version s.geometry ++ (start_texts s ++ (order_texts s.order ++ map call_text s.calls))

-- how many lines stand before the calls: a call, counted from 0, stands on the line of its number after these,
-- counted from 1
abbrev pub header_lines : Script → ℕ
header_lines s = length (shape_texts s.version s.geometry) + 5 + length (order_texts s.order)

-- all the bytes of a script
unfoldable pub spelling : Script → List ℕ
spelling s = flat_map line (script_lines s)

-- no maximum, or one between a unit and 65535 blocks
abbrev pub IsMaximum : ℕ → ℕ → Type 0
IsMaximum unit n = (n ≡ 0) ⊎ ((unit ≤ n) × (n ≤ 65535))

-- bytes of a write: at most 65535 whole blocks
abbrev pub AreBlocks : Geometry → List ℕ → Type 0
AreBlocks g bytes = AreWhole g.block bytes × (length bytes ≤ 65535 * g.block)

-- a CDB has at least one byte, and bytes are bytes
abbrev pub IsRaw : List ℕ → List ℕ → Type 0
IsRaw cdb bytes = (1 ≤ length cdb) × AreBytes cdb × AreBytes bytes

-- the numbers of an action are in range, and a write's bytes are at most 65535 whole blocks
abbrev pub IsAction : Geometry → Action → Type 0
IsAction g (Read lba count) = (lba < 2 ^ 32) × (count < 2 ^ 16)
IsAction g (Write lba bytes) = (lba < 2 ^ 32) × AreBytes bytes × AreBlocks g bytes
IsAction g (Fill lba count byte) = (lba < 2 ^ 32) × (count < 2 ^ 16) × (byte < 256)
IsAction g (Raw cdb bytes) = IsRaw cdb bytes
IsAction g (Lose target) = target < g.targets
IsAction g (Reset target) = target < g.targets
IsAction g (DropNext target) = target < g.targets
IsAction g (Replace target) = target < g.targets
IsAction g (Rebuild target) = target < g.targets
IsAction g Resync = Unit {0}

-- a call of one of the hosts
abbrev pub IsCall : Script → Call → Type 0
IsCall s call = (call.host < s.hosts) × IsAction s.geometry call.action

-- a script is of version 1, which has one area, or of version 2
abbrev pub IsVersion : ℕ → List Area → Type 0
IsVersion version areas = ((version ≡ 1) × (length areas ≡ 1)) ⊎ (version ≡ 2)

-- the most targets of an array
abbrev pub most_targets : ℕ → ℕ
most_targets version = if version == 2 then 32 else 16

-- each number of a script is in the range of its line, and each call is one of these
pub record IsRangedWith (OfCall : Script → Call → Type 0) (s : Script) : Type 0 where
  pub version : IsVersion s.version s.geometry.areas
  pub geometry : IsArray s.geometry
  pub targets : s.geometry.targets ≤ most_targets s.version
  pub least_buffer : greatest_unit s.geometry ≤ s.buffer
  pub most_buffer : s.buffer ≤ 65536
  pub maxima : length s.maxima ≡ 3
  pub write_maximum : get_or s.maxima 0 0 ≤ 65535
  pub regenerate_maximum : IsMaximum (greatest_unit s.geometry) (get_or s.maxima 1 0)
  pub rebuild_maximum : IsMaximum (greatest_unit s.geometry) (get_or s.maxima 2 0)
  pub seed : s.seed < 2 ^ 32
  pub least_hosts : 1 ≤ s.hosts
  pub most_hosts : s.hosts ≤ 26
  pub turns : length s.order ≤ 1000
  pub order : AllByRecursion (λ h. h < s.hosts) s.order
  pub calls : AllByRecursion (OfCall s) s.calls

-- what the grammar allows
abbrev pub IsScript : Script → Type 0
IsScript s = IsRangedWith IsCall s

-- the bytes are this script's
abbrev pub SpellsScript : List ℕ → Script → Type 0
SpellsScript bytes s = (bytes ≡ spelling s) × IsScript s
