-- What became of disks. A list of entries called past has the newest entry first.
use Rattle.std.specs.Prelude.{◌≡◌, ◌==◌, nat_le, ℕ, Bool, false, List, [], ◌∷◌, Option, Some, None, if◌then◌else◌}
use Rattle.std.specs.Ordering.{nat_cmp}
use Rattle.std.specs.Option.{unwrap_or}
use Rattle.std.specs.BTreeMap.{get}
use Rattle.array_journal.specs.declared.at.At.{At}
use Rattle.array_journal.specs.declared.entry.Entry.{Entry}
use Rattle.array_journal.specs.declared.event.Event.{Event}
use Rattle.array_journal.specs.declared.event.Event.TheVariants.{Fresh}
use Rattle.array_journal.specs.Entries.{name_of}
use Rattle.array_journal.specs.Lives.{loss_after, life_after}
use Rattle.array_journal.specs.Media.{drops_after}
use Rattle.journal_index.specs.Stamps.{greater_of}
use Rattle.journal_index.specs.declared.disks.Disk.{Disk}
use Rattle.journal_index.specs.declared.disks.Disks.{Disks}

-- the disk that a target begins with
abbrev pub new_disk : Disk
new_disk = record { loss = None; life = 0; drops = 0; swap = None }

-- the greatest stamp of the swaps that fresh disks came for, after an event
abbrev pub swap_after : Event → Option ℕ → Option ℕ
swap_after (Fresh call swap) old = Some (greater_of old swap.stamp)
swap_after _ old = old

-- what became of a disk, after an entry of its lock
abbrev pub disk_after : At → Event → Disk → Disk
disk_after at event disk = record {
  loss = loss_after at event disk.loss;
  life = life_after event disk.life;
  drops = drops_after event disk.drops;
  swap = swap_after event disk.swap;
}

-- what became of the disk of a lock
abbrev pub disk_at : ℕ → List Entry → Disk
disk_at lock [] = new_disk
disk_at lock (e ∷ past) = if e.lock == lock then disk_after (name_of e) e.event (disk_at lock past) else disk_at lock past

-- there is a stamp that isn't below another
abbrev pub reaches : Option ℕ → ℕ → Bool
reaches None stamp = false
reaches (Some greatest) stamp = nat_le stamp greatest

-- each lock has what became of its disk
abbrev pub KeepsDisks : List Entry → Disks → Type 0
KeepsDisks past disks = (lock : ℕ) → unwrap_or (get nat_cmp disks.disks lock) new_disk ≡ disk_at lock past
