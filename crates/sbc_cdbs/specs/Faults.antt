-- Why bytes spell no command: the operation code comes before the length, and the length before the bits.
use Rattle.std.specs.Prelude.{◌≡◌, ◌≢◌, ℕ, suc, ◌==◌, ◌||◌, List, [], ◌∷◌, if◌then◌else◌, length, Option, Some, None, slice_get, option_map, bit_and}
use Rattle.cdb_fields.specs.Fields.{IsFirstShared}
use Rattle.sbc_cdbs.specs.declared.decoding.CdbFault.{CdbFault}
use Rattle.sbc_cdbs.specs.declared.decoding.CdbFault.TheVariants.{OpCode, Length, Bits}

-- The bits that must be zero in a block of this operation code, byte by byte; none where no command has
-- the code. CONTROL, the last byte, is among them.
abbrev pub reserved_bits : ℕ → Option (List ℕ)
reserved_bits code =
    if code == 0x28 || code == 0x2a || code == 0x51 then
    Some (0 ∷ 0xe7 ∷ 0 ∷ 0 ∷ 0 ∷ 0 ∷ 0xff ∷ 0 ∷ 0 ∷ 0xff ∷ [])
    else if code == 0x50 || code == 0x53 then
    Some (0 ∷ 0xe3 ∷ 0 ∷ 0 ∷ 0 ∷ 0 ∷ 0xff ∷ 0 ∷ 0 ∷ 0xff ∷ [])
    else if code == 0x52 then
    Some (0 ∷ 0xff ∷ 0 ∷ 0 ∷ 0 ∷ 0 ∷ 0xff ∷ 0 ∷ 0 ∷ 0xff ∷ [])
    else if code == 0x55 then
    Some (0 ∷ 0xee ∷ 0xff ∷ 0xff ∷ 0xff ∷ 0xff ∷ 0xff ∷ 0 ∷ 0 ∷ 0xff ∷ [])
    else if code == 0x5a then
    Some (0 ∷ 0xf7 ∷ 0 ∷ 0xff ∷ 0xff ∷ 0xff ∷ 0xff ∷ 0 ∷ 0 ∷ 0xff ∷ [])
    else if code == 0x80 then
    Some (0 ∷ 0xe3 ∷ 0 ∷ 0 ∷ 0 ∷ 0 ∷ 0 ∷ 0 ∷ 0 ∷ 0 ∷ 0 ∷ 0 ∷ 0 ∷ 0 ∷ 0 ∷ 0xff ∷ [])
    else if code == 0x81 || code == 0x82 then
    Some (0 ∷ 0xe3 ∷ 0 ∷ 0 ∷ 0 ∷ 0 ∷ 0 ∷ 0 ∷ 0 ∷ 0 ∷ 0 ∷ 0 ∷ 0 ∷ 0 ∷ 0xff ∷ 0xff ∷ [])
    else None

-- the bits that must be zero in these bytes, by their operation code
abbrev pub mask_of : List ℕ → Option (List ℕ)
mask_of [] = None
mask_of (code ∷ rest) = reserved_bits code

-- the lowest byte, from this one on, with a bit that must be zero and is one
abbrev pub first_offending : ℕ → List ℕ → List ℕ → Option ℕ
first_offending byte [] cdb = None
first_offending byte (m ∷ mask) [] = None
first_offending byte (m ∷ mask) (b ∷ cdb) = if bit_and m b == 0 then first_offending (suc byte) mask cdb else Some byte

-- how many bytes are wanted: as many as the operation code has, and one where there is no code
abbrev pub wanted_length : List ℕ → Option ℕ
wanted_length [] = Some 1
wanted_length (code ∷ rest) = option_map length (reserved_bits code)

-- the bytes are a block of a known code and its length, and this is the lowest byte with an offending bit
pub record IsBitFault (bytes : List ℕ) (byte : ℕ) : Type 0 where
  pub mask : List ℕ
  pub known : mask_of bytes ≡ Some mask
  pub long : length bytes ≡ length mask
  pub first : IsFirstShared mask bytes byte

-- the first fault of the bytes
abbrev pub IsFault : List ℕ → CdbFault → Type 0
IsFault bytes (OpCode code) = (slice_get bytes 0 ≡ Some code) × (reserved_bits code ≡ None)
IsFault bytes (Length want got) = (got ≡ length bytes) × (got ≢ want) × (wanted_length bytes ≡ Some want)
IsFault bytes (Bits byte) = IsBitFault bytes byte
