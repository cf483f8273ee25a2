-- What is seen of a medium, and which rows a call may name.
use Rattle.std.specs.Prelude.{◌≡◌, ◌≤◌, ◌+◌, ◌*◌, ℕ, List, length}
use Rattle.outer_io.specs.Outside.{FailingCalls}

-- so many bytes are the blocks of whole rows, from a row on, and the medium has these rows
pub record AreRows (block rows row len : ℕ) : Type 0 where
  pub count : ℕ
  pub whole : len ≡ count * block
  pub within : row + count ≤ rows

-- a medium in memory: a block's size, how many rows of one block it has, and the bytes of all
pub record Sectors : Type 0 where
  pub block : ℕ
  pub rows : ℕ
  pub bytes : List ℕ

-- the bytes are the blocks of all rows
abbrev pub AreAllRows : Sectors → Type 0
AreAllRows medium = length medium.bytes ≡ medium.rows * medium.block

-- a medium in memory of which some calls fail
pub record FailingSectors : Type 0 where
  pub medium : Sectors
  pub calls : FailingCalls
  pub faults : ℕ
