-- Why bytes are no sense data of this format: the length comes before the response code, and that before
-- the bits.
use Rattle.std.specs.Prelude.{◌≡◌, ◌≢◌, ℕ, Bool, ◌==◌, List, [], ◌∷◌, if◌then◌else◌, length, slice_index, slice_set, bit_xor}
use Rattle.cdb_fields.specs.Fields.{bits, is_one, IsFirstShared}
use Rattle.sense_data.specs.declared.decoding.SenseFault.{SenseFault}
use Rattle.sense_data.specs.declared.decoding.SenseFault.TheVariants.{Length, Code, Bits}

-- The bits that must be zero, byte by byte: the information where VALID is zero; SKSV where the key is
-- not 5 (ILLEGAL REQUEST); the bit pointer where BPV is zero; the sense key specific bytes where SKSV is
-- zero. Bits 5 and 4 of byte 15 are always zero. The additional length stands in byte 7.
abbrev pub reserved_bits : Bool → ℕ → Bool → Bool → List ℕ
reserved_bits valid key sksv bpv =
    0 ∷ 0xff ∷ 0xf0 ∷ unless valid ∷ unless valid ∷ unless valid ∷ unless valid ∷ 0xff ∷ 0 ∷ 0 ∷ 0 ∷ 0 ∷ 0 ∷ 0 ∷ 0
    ∷ (if sksv then (if key == 5 then (if bpv then 0x30 else 0x37) else 0xb0) else 0xff) ∷ unless sksv ∷ unless sksv ∷ []
  where
    unless : Bool → ℕ
    unless used = if used then 0 else 0xff

-- the same for these bytes
abbrev pub mask_of : List ℕ → List ℕ
mask_of b = reserved_bits (is_one 0 7 b) (bits 3 0 (slice_index b 2)) (is_one 15 7 b) (is_one 15 3 b)

-- the bytes with zero in place of an additional length of 0Ah, and something else in place of another
abbrev pub without_length : List ℕ → List ℕ
without_length b = slice_set b 7 (bit_xor (slice_index b 7) 10)

-- the first fault of the bytes
abbrev pub IsFault : List ℕ → SenseFault → Type 0
IsFault b (Length got) = (got ≡ length b) × (got ≢ 18)
IsFault b (Code got) = (length b ≡ 18) × (got ≡ bits 6 0 (slice_index b 0)) × (got ≢ 0x70)
IsFault b (Bits byte) = (length b ≡ 18) × (bits 6 0 (slice_index b 0) ≡ 0x70) × IsFirstShared (mask_of b) (without_length b) byte
