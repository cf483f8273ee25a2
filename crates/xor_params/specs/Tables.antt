-- The descriptors of a parameter list as sixteen bytes each.
use Rattle.std.specs.Prelude.{◌≡◌, ◌≢◌, ◌+◌, ◌*◌, ◌<◌, ℕ, List, [], length, slice_index, slice_index_or, bit_and}
use Rattle.xor_params.specs.ParameterLists.{reserved_bits, place}

-- the descriptors of the table stand in the bytes, one behind the other
abbrev pub HasPlaces : List ℕ → List (List ℕ) → Type 0
HasPlaces bytes table = (k i : ℕ) → k < length table → i < 16 → slice_index (slice_index_or table k []) i ≡ slice_index bytes (place k i)

-- those bits of byte i of descriptor k that must be zero and aren't
abbrev pub wrong_bits_at : List (List ℕ) → ℕ → ℕ → ℕ
wrong_bits_at table k i = bit_and (slice_index reserved_bits i) (slice_index (slice_index_or table k []) i)

-- no descriptor has such a bit
abbrev pub IsClean : List (List ℕ) → Type 0
IsClean table = (k i : ℕ) → k < length table → i < 16 → wrong_bits_at table k i ≡ 0

-- this is the lowest place, from the first descriptor on, of a byte with such a bit
pub record IsLowestOffence (table : List (List ℕ)) (at : ℕ) : Type 0 where
  pub number : ℕ
  pub inner : ℕ
  pub within : number < length table
  pub inside : inner < 16
  pub place : at ≡ 16 * number + inner
  pub offends : wrong_bits_at table number inner ≢ 0
  pub lowest : (k i : ℕ) → i < 16 → 16 * k + i < at → wrong_bits_at table k i ≡ 0
