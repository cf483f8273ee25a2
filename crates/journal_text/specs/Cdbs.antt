-- The bytes of a CDB in a block of 16.
use Rattle.std.specs.Prelude.{ℕ, zero, suc, ◌≡◌, ◌≤◌, ◌-◌, List, ◌++◌, length, Option, Some, slice_index}
use Rattle.std.proofs.Common.{refl, ◌∙◌}
use Rattle.std.proofs.lemmas.List.{get_or-append_right}
use Rattle.blocks_core.specs.Xor.{zeros}
use Rattle.sbc_cdbs.specs.declared.descriptor.Cdb.{Cdb}
use Rattle.text_fields.specs.Reading.{◌>>=◌}
use Rattle.journal_text.specs.Steps.{at_most}

zeros-at : (n k : ℕ) → slice_index (zeros n) k ≡ 0
zeros-at zero k = refl
zeros-at (suc n) zero = refl
zeros-at (suc n) (suc k) = zeros-at n k

-- behind the bytes stand zeros
pub zeros-behind : (bytes : List ℕ) (n k : ℕ) → length bytes ≤ k → slice_index (bytes ++ zeros n) k ≡ 0
zeros-behind bytes n k le = get_or-append_right bytes (zeros n) (length bytes) k 0 refl le ∙ zeros-at n (k - length bytes)

-- a CDB of so many bytes, at most 16
unfoldable pub cdb_of : List ℕ → Option Cdb
cdb_of bytes = do
  fits ← at_most (length bytes) 16
  Some (record { bytes = bytes ++ zeros (16 - length bytes); len = length bytes; fits = fits; padded = zeros-behind bytes (16 - length bytes) })
