-- Parameter lists of REBUILD and REGENERATE (SBC). The highest byte of a number stands first.
use Rattle.std.specs.Prelude.{◌≡◌, ◌≢◌, ◌⊎◌, ◌+◌, ◌*◌, ◌<◌, ◌≤◌, ◌^◌, ℕ, Bool, List, [], ◌∷◌, ◌++◌, if◌then◌else◌, length, slice_index, bit_and}
use Rattle.std.specs.List.{flat_map, All}
use Rattle.std.specs.Int.{w16, w32, to_be_bytes}
use Rattle.xor_params.specs.declared.sources.Descriptor.{Descriptor}
use Rattle.xor_params.specs.declared.lists.Params.{Params}
use Rattle.xor_params.specs.declared.lists.ParamFault.{ParamFault}
use Rattle.xor_params.specs.declared.lists.ParamFault.TheVariants.{Length, Field, Memory}

-- ---- what bytes spell

-- a descriptor: seven zero bytes and the target's number, four zero bytes, the first LBA
abbrev pub descriptor : Descriptor → List ℕ
descriptor d = 0 ∷ 0 ∷ 0 ∷ 0 ∷ 0 ∷ 0 ∷ 0 ∷ d.target ∷ 0 ∷ 0 ∷ 0 ∷ 0 ∷ to_be_bytes w32 d.lba

-- how many bytes descriptors and pad have together
abbrev pub room : Params → ℕ
room p = 16 * length p.sources + length p.pad

-- the bytes that spell a list: the number of descriptors, a zero byte, the length of descriptors and pad,
-- these, and the intermediate data
abbrev pub spelling : Params → List ℕ
spelling p = length p.sources ∷ 0 ∷ to_be_bytes w16 (room p) ++ flat_map descriptor p.sources ++ p.pad ++ p.intermediate

-- what has a spelling
pub record Fits (p : Params) : Type 0 where
  pub few : length p.sources ≤ 255
  pub short : room p ≤ 65535
  pub addresses : All (λ d. d.lba < 2 ^ 32) p.sources

-- how much intermediate data is due, by the command's INTDATA bit
abbrev pub data_due : Bool → ℕ → ℕ
data_due intdata wanted = if intdata then wanted else 0

-- The bytes spell the list, for a command with this INTDATA bit that takes so many bytes of
-- intermediate data where the bit is one.
pub record SpellsParams (bytes : List ℕ) (intdata : Bool) (wanted : ℕ) (p : Params) : Type 0 where
  pub spelled : bytes ≡ spelling p
  pub fits : Fits p
  pub amount : length p.intermediate ≡ data_due intdata wanted

-- ---- what is wrong with other bytes, in the order in which it is looked for

-- how many descriptors the bytes announce
abbrev pub announced_sources : List ℕ → ℕ
announced_sources bytes = slice_index bytes 0

-- how many bytes of descriptors and pad they announce
abbrev pub announced_room : List ℕ → ℕ
announced_room bytes = 256 * slice_index bytes 2 + slice_index bytes 3

-- how many bytes are due in all
abbrev pub due : List ℕ → Bool → ℕ → ℕ
due bytes intdata wanted = 4 + announced_room bytes + data_due intdata wanted

-- the bytes have no head
abbrev pub IsShort : List ℕ → Type 0
IsShort bytes = length bytes < 4

-- else the head's reserved byte isn't zero
pub record HasReserved (bytes : List ℕ) : Type 0 where
  pub long : 4 ≤ length bytes
  pub reserved : slice_index bytes 1 ≢ 0

-- else the announced descriptors don't find room
pub record IsCrowded (bytes : List ℕ) : Type 0 where
  pub long : 4 ≤ length bytes
  pub clean : slice_index bytes 1 ≡ 0
  pub crowded : announced_room bytes < 16 * announced_sources bytes

-- the head has none of these faults
pub record HasHead (bytes : List ℕ) : Type 0 where
  pub long : 4 ≤ length bytes
  pub clean : slice_index bytes 1 ≡ 0
  pub roomy : 16 * announced_sources bytes ≤ announced_room bytes

-- else another number of bytes came than is due
pub record HasWrongLength (bytes : List ℕ) (intdata : Bool) (wanted : ℕ) : Type 0 where
  pub head : HasHead bytes
  pub other : length bytes ≢ due bytes intdata wanted

-- the bits of a descriptor that must be zero, byte by byte
abbrev pub reserved_bits : List ℕ
reserved_bits = 255 ∷ 255 ∷ 255 ∷ 255 ∷ 255 ∷ 255 ∷ 255 ∷ 0 ∷ 255 ∷ 255 ∷ 255 ∷ 255 ∷ 0 ∷ 0 ∷ 0 ∷ 0 ∷ []

-- where byte i of descriptor k stands
abbrev pub place : ℕ → ℕ → ℕ
place k i = 4 + 16 * k + i

-- those bits of byte i of descriptor k that must be zero and aren't
abbrev pub wrong_bits : List ℕ → ℕ → ℕ → ℕ
wrong_bits bytes k i = bit_and (slice_index reserved_bits i) (slice_index bytes (place k i))

-- else this is the lowest byte of the descriptors with such a bit
pub record OffendsFirst (bytes : List ℕ) (intdata : Bool) (wanted byte : ℕ) : Type 0 where
  pub head : HasHead bytes
  pub whole : length bytes ≡ due bytes intdata wanted
  pub number : ℕ
  pub inner : ℕ
  pub within : number < announced_sources bytes
  pub inside : inner < 16
  pub at : byte ≡ place number inner
  pub offends : wrong_bits bytes number inner ≢ 0
  pub lowest : (k i : ℕ) → i < 16 → place k i < byte → wrong_bits bytes k i ≡ 0

-- the bytes are refused with this fault
abbrev pub IsRefused : List ℕ → Bool → ℕ → ParamFault → Type 0
IsRefused bytes intdata wanted (Length want got) =
    (got ≡ length bytes) × ((IsShort bytes × (want ≡ 4)) ⊎ (HasWrongLength bytes intdata wanted × (want ≡ due bytes intdata wanted)))
IsRefused bytes intdata wanted (Field byte) =
    (HasReserved bytes × (byte ≡ 1)) ⊎ (IsCrowded bytes × (byte ≡ 2)) ⊎ OffendsFirst bytes intdata wanted byte
IsRefused bytes intdata wanted Memory = ⊥

-- why a decoder may answer a fault: the bytes are refused with it, or memory ran out for a list that they spell
abbrev pub IsFault : List ℕ → Bool → ℕ → ParamFault → Type 0
IsFault bytes intdata wanted (Length want got) = IsRefused bytes intdata wanted (Length want got)
IsFault bytes intdata wanted (Field byte) = IsRefused bytes intdata wanted (Field byte)
IsFault bytes intdata wanted Memory = (p : Params) × SpellsParams bytes intdata wanted p
