-- Fields of descriptor blocks and parameter lists. Bit 7 of a byte is its highest; the bytes of a number
-- stand highest first.
use Rattle.std.specs.Prelude.{◌≡◌, ◌≢◌, ◌+◌, ◌-◌, ◌*◌, ◌/◌, ◌%◌, ◌<◌, ◌^◌, ◌==◌, ℕ, Bool, List, ◌++◌, if◌then◌else◌, take, drop, length, slice_index, bit_and}
use Rattle.byteorder.specs.Endian.{big_bytes, big_number}

-- the value of a byte in which only this bit may be one
abbrev pub flag : ℕ → Bool → ℕ
flag place one = if one then 2 ^ place else 0

-- the number in the bits high to low of a byte
abbrev pub bits : ℕ → ℕ → ℕ → ℕ
bits high low byte = byte / 2 ^ low % 2 ^ (high + 1 - low)

-- the byte with these bits replaced by a number
abbrev pub with_bits : ℕ → ℕ → ℕ → ℕ → ℕ
with_bits high low byte value = byte - bits high low byte * 2 ^ low + value * 2 ^ low

-- the number in the bytes from a place on
abbrev pub number_at : ℕ → ℕ → List ℕ → ℕ
number_at place width bytes = big_number width (drop place bytes)

-- the bytes with those from a place on replaced by a number's
abbrev pub with_number : ℕ → ℕ → List ℕ → ℕ → List ℕ
with_number place width bytes value = take place bytes ++ big_bytes width value ++ drop (place + width) bytes

-- the same bits are one in both bytes at this place
abbrev pub SharesBit : List ℕ → List ℕ → ℕ → Type 0
SharesBit mask bytes k = bit_and (slice_index mask k) (slice_index bytes k) ≢ 0

-- no bit is one in both bytes at this place
abbrev pub SharesNone : List ℕ → List ℕ → ℕ → Type 0
SharesNone mask bytes k = bit_and (slice_index mask k) (slice_index bytes k) ≡ 0

-- the lowest place at which both have a one bit in common
abbrev pub IsFirstShared : List ℕ → List ℕ → ℕ → Type 0
IsFirstShared mask bytes i = (i < length bytes) × SharesBit mask bytes i × ((k : ℕ) → k < i → SharesNone mask bytes k)

-- the bit of a byte is one
abbrev pub is_one : ℕ → ℕ → List ℕ → Bool
is_one byte place bytes = bits place place (slice_index bytes byte) == 1
