-- What the text of a line says in the form of a rule, before its ranges are tested.
use Rattle.std.specs.Prelude.{ℕ, ◌-◌, ◌==◌, ◌&&◌, nat_lt, nat_le, Bool, if◌then◌else◌, List, [], ◌∷◌, length, map, codes, Option, Some, None}
use Rattle.std.specs.List.{find, list_all}
use Rattle.std.specs.Str.{bytes_eq}
use Rattle.stripe_layout.specs.declared.areas.Area.{Area}
use Rattle.stripe_layout.specs.declared.mode.Mode.{Mode}
use Rattle.stripe_layout.specs.declared.mode.Mode.TheVariants.{Supervised, ThirdParty, Readback}
use Rattle.host_scripts.specs.declared.script.Call.{Call}
use Rattle.host_scripts.specs.declared.script.Action.{Action}
use Rattle.host_scripts.specs.declared.script.Action.TheVariants.{Read, Write, Fill, Raw, Lose, Reset, DropNext, Replace, Rebuild, Resync}
use Rattle.host_scripts.specs.declared.actions.Operation.{Operation}
use Rattle.host_scripts.specs.declared.actions.Operation.TheVariants.{Losing, Resetting, Dropping, Replacing, Rebuilding}
use Rattle.host_scripts.specs.Scripts.{version_text, mode_text}
use Rattle.text_fields.specs.Reading.{◌>>=◌, cut_at, stripped, capped_of, filled_of, data_of, one_byte_of}

-- the number of a numeral, or 2 ^ 32 where it is greater: more than each number that a script may have
abbrev pub numeral_of : List ℕ → Option ℕ
numeral_of text = capped_of 4294967296 text

-- this text and no other
unfoldable pub exact_of : {V : Type 0} → List ℕ → V → List ℕ → Option V
exact_of want value text = if bytes_eq text want then Some value else None

-- what f reads of a first text, or else the other
abbrev pub else_of : {A B : Type 0} → (A → Option B) → Option A → Option B → Option B
else_of f (Some x) other = f x
else_of f None other = other

-- the version whose line this is
unfoldable pub version_of : List ℕ → Option ℕ
version_of text = else_of (λ version. Some version) (exact_of (version_text 1) 1 text) (exact_of (version_text 2) 2 text)

-- a keyword and a number
unfoldable pub number_of : List ℕ → List ℕ → Option ℕ
number_of keyword text = stripped keyword text >>= numeral_of

-- three numbers
unfoldable pub three_of : List ℕ → List ℕ → List ℕ → Option (List ℕ)
three_of write regenerate rebuild = do
  w ← numeral_of write
  g ← numeral_of regenerate
  r ← numeral_of rebuild
  Some (w ∷ g ∷ r ∷ [])

-- the three maxima behind their keyword
unfoldable pub maxima_of : List ℕ → Option (List ℕ)
maxima_of text = do
  all ← stripped (codes "maxima ") text
  write ← cut_at 32 all
  regenerate ← cut_at 32 write.1
  three_of write.0 regenerate.0 regenerate.1

-- all modes
abbrev pub modes : List Mode
modes = Supervised ∷ ThirdParty ∷ Readback ∷ []

-- the mode whose line this is
unfoldable pub mode_of : List ℕ → Option Mode
mode_of text = find (λ mode. bytes_eq text (mode_text mode)) modes

-- an upper-case letter
abbrev pub is_letter : ℕ → Bool
is_letter c = nat_le 65 c && nat_le c 90

-- at least one letter, and nothing else
abbrev pub are_letters : List ℕ → Bool
are_letters text = nat_lt 0 (length text) && list_all is_letter text

-- the hosts of at least one letter
unfoldable pub letters_of : List ℕ → Option (List ℕ)
letters_of text = if are_letters text then Some (map (λ l. l - 65) text) else None

-- the hosts of the first turns
unfoldable pub order_of : List ℕ → Option (List ℕ)
order_of text = stripped (codes "order ") text >>= letters_of

-- a number, a space and what stands behind it
unfoldable pub addressed_of : List ℕ → Option (ℕ × List ℕ)
addressed_of text = do
  cut ← cut_at 32 text
  lba ← numeral_of cut.0
  Some (lba, cut.1)

-- two numbers
unfoldable pub two_of : List ℕ → Option (ℕ × ℕ)
two_of text = do
  first ← addressed_of text
  second ← numeral_of first.1
  Some (first.0, second)

-- the unit and the stripes of an area behind their keyword
unfoldable pub area_of : List ℕ → Option Area
area_of text = do
  numbers ← stripped (codes "area ") text >>= two_of
  Some (record { unit = numbers.0; stripes = numbers.1 })

-- what stands behind `read `
unfoldable pub read_of : List ℕ → Option Action
read_of text = do
  two ← two_of text
  Some (Read two.0 two.1)

-- what stands behind `write `
unfoldable pub write_of : List ℕ → Option Action
write_of text = do
  address ← addressed_of text
  bytes ← data_of address.1
  Some (Write address.0 bytes)

-- what stands behind `fill `
unfoldable pub fill_of : List ℕ → Option Action
fill_of text = do
  address ← addressed_of text
  count ← addressed_of address.1
  byte ← one_byte_of count.1
  Some (Fill address.0 count.0 byte)

-- a CDB and its bytes, which stand behind `cdb `
unfoldable pub raw_parts_of : List ℕ → Option (List ℕ × List ℕ)
raw_parts_of text = do
  cut ← cut_at 32 text
  cdb ← filled_of cut.0
  bytes ← data_of cut.1
  Some (cdb, bytes)

-- what stands behind `cdb `
unfoldable pub raw_of : List ℕ → Option Action
raw_of text = do
  parts ← raw_parts_of text
  Some (Raw parts.0 parts.1)

-- an operation on a target
abbrev pub on_target : Operation → ℕ → Action
on_target Losing target = Lose target
on_target Resetting target = Reset target
on_target Dropping target = DropNext target
on_target Replacing target = Replace target
on_target Rebuilding target = Rebuild target

-- what an operator does to one target
unfoldable pub target_of : Operation → List ℕ → Option Action
target_of operation text = do
  target ← numeral_of text
  Some (on_target operation target)

-- a text begins with this keyword, or else the other
abbrev pub after_of : Operation → Option (List ℕ) → Option (Operation × List ℕ) → Option (Operation × List ℕ)
after_of operation (Some rest) other = Some (operation, rest)
after_of operation None other = other

-- the operation that a text begins with, and what stands behind its word
unfoldable pub operation_at : List ℕ → Option (Operation × List ℕ)
operation_at text =
    after_of Losing (stripped (codes "lose ") text)
    (after_of Resetting (stripped (codes "reset ") text)
    (after_of Dropping (stripped (codes "drop ") text)
    (after_of Replacing (stripped (codes "replace ") text)
    (after_of Rebuilding (stripped (codes "rebuild ") text) None))))

-- what an operator asks
unfoldable pub operator_of : List ℕ → Option Action
operator_of text = else_of (λ x. target_of x.0 x.1) (operation_at text) (exact_of (codes "resync") Resync text)

-- what a host asks
unfoldable pub action_of : List ℕ → Option Action
action_of text =
    else_of read_of (stripped (codes "read ") text)
    (else_of write_of (stripped (codes "write ") text)
    (else_of fill_of (stripped (codes "fill ") text)
    (else_of raw_of (stripped (codes "cdb ") text)
    (operator_of text))))

-- what a host asks is its call
abbrev pub called : ℕ → Option Action → Option Call
called host None = None
called host (Some a) = Some (record { host = host; action = a })

-- a host's letter, a space and what it asks
unfoldable pub call_of : List ℕ → Option Call
call_of [] = None
call_of (c ∷ []) = None
call_of (c ∷ space ∷ text) = if is_letter c && (space == 32) then called (c - 65) (action_of text) else None
