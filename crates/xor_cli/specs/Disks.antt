-- What a target has: the bytes of its medium, and the delta that it holds.
use Rattle.std.specs.Prelude.{ℕ, ◌+◌, ◌<◌, ◌≤◌, List, [], length, slice_index_or, slice_set}
use Rattle.blocks_core.specs.Xor.{xor}
use Rattle.array_journal.specs.declared.entry.Entry.{Entry}
use Rattle.blocks_core.specs.Lists.{slice, put}

pub record Disk : Type 0 where
  pub medium : List ℕ
  pub held : List ℕ

-- a target: its disk, and the entries of its lock
pub record Lane : Type 0 where
  pub disk : Disk
  pub entries : List Entry

-- the disk at a target
abbrev pub disk_of : List Disk → ℕ → Disk
disk_of disks i = slice_index_or disks i (record { medium = []; held = [] })

-- so many bytes from a byte on are on the medium of a target
abbrev pub IsOnDisk : List Disk → ℕ → ℕ → ℕ → Type 0
IsOnDisk disks i at len = (i < length disks) × (at + len ≤ length (disk_of disks i).medium)

-- bytes were written to a target, which holds their delta
abbrev pub with_diff : List Disk → ℕ → ℕ → List ℕ → List Disk
with_diff disks i at bytes =
    slice_set disks i
    (record { medium = put (disk_of disks i).medium at bytes; held = xor (slice (disk_of disks i).medium at (length bytes)) bytes })

-- what a target held was taken
abbrev pub with_take : List Disk → ℕ → List Disk
with_take disks i = slice_set disks i (record { medium = (disk_of disks i).medium; held = [] })

-- a delta was folded into a target
abbrev pub with_fold : List Disk → ℕ → ℕ → List ℕ → List Disk
with_fold disks i at delta =
    slice_set disks i
    (record {
      medium = put (disk_of disks i).medium at (xor (slice (disk_of disks i).medium at (length delta)) delta);
      held = (disk_of disks i).held;
    })
