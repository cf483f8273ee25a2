-- Reading a script from left to right, line by line: what is read, and the bytes after it, or the first line that is
-- refused and the first cause in it. A line is read with numbers of any size before its ranges are tested.
use Rattle.std.specs.Prelude.{ℕ, ◌≡◌, ◌+◌, ◌*◌, ◌%◌, ◌==◌, ◌&&◌, ◌||◌, nat_lt, nat_le, zero, suc, Bool, true, if◌then◌else◌, List, [], ◌∷◌, length, get_or, Option, Some, None, Result, Ok, Err, codes}
use Rattle.std.specs.List.{list_all}
use Rattle.stripe_layout.specs.Layout.{greatest_unit}
use Rattle.stripe_layout.specs.declared.areas.Area.{Area}
use Rattle.stripe_layout.specs.declared.geometry.Geometry.{Geometry}
use Rattle.stripe_layout.specs.declared.mode.Mode.{Mode}
use Rattle.host_scripts.specs.declared.script.Script.{Script}
use Rattle.host_scripts.specs.declared.script.Call.{Call}
use Rattle.host_scripts.specs.declared.script.Action.{Action}
use Rattle.host_scripts.specs.declared.script.Action.TheVariants.{Read, Write, Fill, Raw, Lose, Reset, DropNext, Replace, Rebuild, Resync}
use Rattle.host_scripts.specs.declared.script.Cause.{Cause}
use Rattle.host_scripts.specs.declared.script.Cause.TheVariants.{Form, Range, Size}
use Rattle.host_scripts.specs.declared.script.ScriptFault.{ScriptFault}
use Rattle.host_scripts.specs.declared.script.ScriptFault.TheVariants as faults
use Rattle.text_fields.specs.Reading.{cut_at, stripped}
use Rattle.host_scripts.specs.Scripts.{most_targets}
use Rattle.host_scripts.specs.Loose.{version_of, number_of, area_of, maxima_of, mode_of, order_of, call_of}

-- a line and a cause
abbrev pub Fault : Type 0
Fault = ℕ × Cause

-- the second step, where the first gave a value
infixl 10 ◌>>=◌
abbrev pub ◌>>=◌ : {A B : Type 0} → Result A Fault → (A → Result B Fault) → Result B Fault
(Ok x) >>= f = f x
(Err e) >>= f = Err e

-- a refusal is the one that reading gives, and want of memory says nothing
abbrev pub Fails : {Y : Type 0} → ScriptFault → Result Y Fault → Type 0
Fails faults.Memory read = Unit {0}
Fails (faults.Refused n cause) read = read ≡ Err (n, cause)

-- what a function returned, seen by view, is what reading gives
abbrev pub Gives : {X Y : Type 0} → (X → Y) → Result X ScriptFault → Result Y Fault → Type 0
Gives view (Ok x) read = read ≡ Ok (view x)
Gives view (Err e) read = Fails e read

-- what is said in the form of a rule is tested for its ranges, and then for its size
abbrev pub judged : {V : Type 0} → ℕ → (V → Bool) → (V → Bool) → Option V → Result V Fault
judged n ranged sized None = Err (n, Form)
judged n ranged sized (Some v) = if ranged v then (if sized v then Ok v else Err (n, Size)) else Err (n, Range)

-- no test
abbrev pub any : {V : Type 0} → V → Bool
any v = true

-- a line has an end
abbrev pub ended : {A : Type 0} → ℕ → Option A → Result A Fault
ended n (Some cut) = Ok cut
ended n None = Err (n, Form)

-- the text of the next line, and the bytes after its end
unfoldable pub next_at : ℕ → List ℕ → Result (List ℕ × List ℕ) Fault
next_at n bytes = ended n (cut_at 10 bytes)

-- the next line, by a rule and its tests
unfoldable pub line_at : {V : Type 0} → ℕ → (V → Bool) → (V → Bool) → (List ℕ → Option V) → List ℕ → Result (V × List ℕ) Fault
line_at n ranged sized rule bytes = do
  cut ← next_at n bytes
  v ← judged n ranged sized (rule cut.0)
  Ok (v, cut.1)

-- what at most so many lines say, each read by itself, to the last byte
unfoldable pub each_at : {V : Type 0} → (ℕ → List ℕ → Result (V × List ℕ) Fault) → ℕ → ℕ → List ℕ → Result (List V) Fault
each_at read turns n [] = Ok []
each_at read zero n (b ∷ bytes) = Err (n, Form)
each_at read (suc turns) n (b ∷ bytes) = do
  first ← read n (b ∷ bytes)
  others ← each_at read turns (n + 1) first.1
  Ok (first.0 ∷ others)

-- a number between two others
abbrev pub within : ℕ → ℕ → ℕ → Bool
within least most n = nat_le least n && nat_le n most

-- a line of a keyword and a number in range
unfoldable pub number_at : ℕ → List ℕ → ℕ → ℕ → List ℕ → Result (ℕ × List ℕ) Fault
number_at n keyword least most bytes = line_at n (within least most) any (number_of keyword) bytes

-- no maximum, or one between a unit and 65535 blocks
abbrev pub is_maximum : ℕ → ℕ → Bool
is_maximum unit n = (n == 0) || within unit 65535 n

-- the three maxima are in range
abbrev pub are_maxima : ℕ → List ℕ → Bool
are_maxima unit maxima = nat_le (get_or maxima 0 0) 65535 && is_maximum unit (get_or maxima 1 0) && is_maximum unit (get_or maxima 2 0)

-- the version
unfoldable pub version_at : List ℕ → Result (ℕ × List ℕ) Fault
version_at bytes = line_at 1 any any version_of bytes

-- the one area of version 1
unfoldable pub single_at : List ℕ → Result (List Area × List ℕ) Fault
single_at bytes = do
  unit ← number_at 4 (codes "unit ") 1 4096 bytes
  stripes ← number_at 5 (codes "stripes ") 1 4096 unit.1
  Ok (record { unit = unit.0; stripes = stripes.0 } ∷ [], stripes.1)

-- the numbers of an area are in range
abbrev pub is_area : Area → Bool
is_area a = within 1 4096 a.unit && within 1 4096 a.stripes

-- the area of the next line
unfoldable pub area_at : ℕ → List ℕ → Result (Area × List ℕ) Fault
area_at n bytes = line_at n is_area any area_of bytes

-- so many areas, a line each
unfoldable pub areas_at : ℕ → ℕ → List ℕ → Result (List Area × List ℕ) Fault
areas_at zero n bytes = Ok ([], bytes)
areas_at (suc count) n bytes = do
  first ← area_at n bytes
  others ← areas_at count (n + 1) first.1
  Ok (first.0 ∷ others.0, others.1)

-- the areas of version 2
unfoldable pub several_at : List ℕ → Result (List Area × List ℕ) Fault
several_at bytes = do
  count ← number_at 4 (codes "areas ") 1 8 bytes
  areas_at count.0 5 count.1

-- the areas of either version
abbrev pub version_areas_at : ℕ → List ℕ → Result (List Area × List ℕ) Fault
version_areas_at version bytes = if version == 2 then several_at bytes else single_at bytes

-- the lines of the version and of the array's shape
unfoldable pub shape_at : List ℕ → Result (ℕ × Geometry × List ℕ) Fault
shape_at bytes = do
  version ← version_at bytes
  targets ← number_at 2 (codes "targets ") 3 (most_targets version.0) version.1
  block ← number_at 3 (codes "block ") 1 4096 targets.1
  areas ← version_areas_at version.0 block.1
  Ok (version.0, record { targets = targets.0; block = block.0; areas = areas.0 }, areas.1)

-- the line behind those of the shape, counted from 1
abbrev pub buffer_line : ℕ → List Area → ℕ
buffer_line version areas = if version == 2 then 5 + length areas else 6

-- what each target starts with: its buffer and its maxima, on this line and the next
unfoldable pub targets_at : ℕ → ℕ → List ℕ → Result (ℕ × List ℕ × List ℕ) Fault
targets_at unit n bytes = do
  buffer ← number_at n (codes "buffer ") unit 65536 bytes
  maxima ← line_at (n + 1) (are_maxima unit) any maxima_of buffer.1
  Ok (buffer.0, maxima.0, maxima.1)

-- how the hosts run: the mode, the seed and their number, on this line and the next two
unfoldable pub hosts_at : ℕ → List ℕ → Result (Mode × ℕ × ℕ × List ℕ) Fault
hosts_at n bytes = do
  mode ← line_at n any any mode_of bytes
  seed ← number_at (n + 1) (codes "seed ") 0 4294967295 mode.1
  hosts ← number_at (n + 2) (codes "hosts ") 1 26 seed.1
  Ok (mode.0, seed.0, hosts.0, hosts.1)

-- what the lines say that each script begins with
pub record Head : Type 0 where
  pub version : ℕ
  pub geometry : Geometry
  pub buffer : ℕ
  pub maxima : List ℕ
  pub mode : Mode
  pub seed : ℕ
  pub hosts : ℕ

-- these lines
unfoldable pub head_at : List ℕ → Result (Head × List ℕ) Fault
head_at bytes = do
  shape ← shape_at bytes
  targets ← targets_at (greatest_unit shape.1) (buffer_line shape.0 shape.1.areas) shape.2
  hosts ← hosts_at (buffer_line shape.0 shape.1.areas + 2) targets.2
  Ok (record { version = shape.0; geometry = shape.1; buffer = targets.0; maxima = targets.1; mode = hosts.0; seed = hosts.1; hosts = hosts.2 }, hosts.3)

-- the line behind them, counted from 1
abbrev pub turns_line : Head → ℕ
turns_line h = buffer_line h.version h.geometry.areas + 5

-- no more than 1000 turns, each of a host
abbrev pub are_turns : ℕ → List ℕ → Bool
are_turns hosts turns = nat_le (length turns) 1000 && list_all (λ h. nat_lt h hosts) turns

-- the line, where it begins so, and else no turns
abbrev pub where_given : Option (List ℕ) → List ℕ → Result (List ℕ × List ℕ) Fault → Result (List ℕ × List ℕ) Fault
where_given (Some behind) bytes read = read
where_given None bytes read = Ok ([], bytes)

-- the line of the first turns, where one stands there
unfoldable pub order_at : ℕ → ℕ → List ℕ → Result (List ℕ × List ℕ) Fault
order_at hosts n bytes = where_given (stripped (codes "order ") bytes) bytes (line_at n (are_turns hosts) any order_of bytes)

-- the numbers of an action are in range
abbrev pub is_ranged : Geometry → Action → Bool
is_ranged g (Read lba count) = nat_le lba 4294967295 && nat_le count 65535
is_ranged g (Write lba bytes) = nat_le lba 4294967295
is_ranged g (Fill lba count byte) = nat_le lba 4294967295 && nat_le count 65535
is_ranged g (Raw cdb bytes) = true
is_ranged g (Lose target) = nat_lt target g.targets
is_ranged g (Reset target) = nat_lt target g.targets
is_ranged g (DropNext target) = nat_lt target g.targets
is_ranged g (Replace target) = nat_lt target g.targets
is_ranged g (Rebuild target) = nat_lt target g.targets
is_ranged g Resync = true

-- the bytes of a write are whole blocks, and no more than 65535
abbrev pub is_sized : Geometry → Action → Bool
is_sized g (Read lba count) = true
is_sized g (Write lba bytes) = (length bytes % g.block == 0) && nat_le (length bytes) (65535 * g.block)
is_sized g (Fill lba count byte) = true
is_sized g (Raw cdb bytes) = true
is_sized g (Lose target) = true
is_sized g (Reset target) = true
is_sized g (DropNext target) = true
is_sized g (Replace target) = true
is_sized g (Rebuild target) = true
is_sized g Resync = true

-- the same of a call of one of so many hosts
abbrev pub is_ranged_call : Geometry → ℕ → Call → Bool
is_ranged_call g hosts call = nat_lt call.host hosts && is_ranged g call.action

abbrev pub is_sized_call : Geometry → Call → Bool
is_sized_call g call = is_sized g call.action

-- the call of the next line
unfoldable pub call_at : Geometry → ℕ → ℕ → List ℕ → Result (Call × List ℕ) Fault
call_at g hosts n bytes = line_at n (is_ranged_call g hosts) (is_sized_call g) call_of bytes

-- the calls of at most so many lines, to the last byte
abbrev pub calls_at : Geometry → ℕ → ℕ → ℕ → List ℕ → Result (List Call) Fault
calls_at g hosts turns n bytes = each_at (call_at g hosts) turns n bytes

-- the line of the first call, behind that of the turns, where one stands on this line
abbrev pub first_line : ℕ → List ℕ → ℕ
first_line n [] = n
first_line n (h ∷ turns) = n + 1

-- the whole script
unfoldable pub script_at : List ℕ → Result Script Fault
script_at bytes = do
  head ← head_at bytes
  order ← order_at head.0.hosts (turns_line head.0) head.1
  calls ← calls_at head.0.geometry head.0.hosts (length order.1) (first_line (turns_line head.0) order.0) order.1
  Ok (record { version = head.0.version; geometry = head.0.geometry; buffer = head.0.buffer; maxima = head.0.maxima; mode = head.0.mode; seed = head.0.seed; hosts = head.0.hosts; order = order.0; calls = calls })
