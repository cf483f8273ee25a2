-- Bytes that are whole blocks of one size.
use Rattle.std.specs.Prelude.{◌≡◌, ◌⊎◌, ◌≢◌, ◌%◌, ℕ, List, length}

-- a block's size in bytes, and the bytes
pub record Contents : Type 0 where
  pub block : ℕ
  pub bytes : List ℕ

-- the bytes aren't whole blocks of that size
abbrev pub IsRagged : ℕ → List ℕ → Type 0
IsRagged block bytes = (block ≡ 0) ⊎ ((block ≢ 0) × (length bytes % block ≢ 0))

-- they are
abbrev pub AreWhole : ℕ → List ℕ → Type 0
AreWhole block bytes = (block ≢ 0) × (length bytes % block ≡ 0)
