-- A disk: a medium of rows of one block each, and a buffer of held blocks.
use Rattle.std.specs.Prelude.{◌≡◌, ◌≤◌, ◌*◌, ℕ, Bool, false, List, length, Option, IfSome}
use Rattle.blocks_core.specs.Lists.{slice}
use Rattle.blocks_core.specs.Xor.{xor}
use Rattle.outer_io.specs.Outside.{HasRisen, TellsOn}
use Rattle.xor_buffers.specs.Holding.{Holding}

-- a block's size, how many rows there are, the bytes of all where they are told, how often the medium failed, and what
-- the buffer holds
pub record DiskState : Type 0 where
  pub block : ℕ
  pub rows : ℕ
  pub contents : Option (List ℕ)
  pub faults : ℕ
  pub buffer : Holding

-- what no call of the medium changes: all but the bytes and the count of failures, which doesn't fall
pub record IsSameDisk (before now : DiskState) : Type 0 where
  pub same : now ≡ record before { contents = now.contents; faults = now.faults }
  pub tells_on : TellsOn before.contents now.contents
  pub tells_no_more : TellsOn now.contents before.contents
  pub counted : before.faults ≤ now.faults

-- the medium failed: its count of failures rose, and it isn't one that never fails
pub record HasFailed (never_fails : Bool) (before now : ℕ) : Type 0 where
  pub risen : HasRisen before now
  pub may_fail : never_fails ≡ false

-- bytes are those of rows, exclusive-or others
pub record IsDelta (disk : DiskState) (row : ℕ) (bytes delta : List ℕ) : Type 0 where
  pub old : List ℕ
  pub stood : IfSome disk.contents (λ told. old ≡ slice told (row * disk.block) (length bytes))
  pub made : delta ≡ xor old bytes
