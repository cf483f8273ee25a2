-- The greatest stamps of locks. A list of entries called past has the newest entry first.
use Rattle.std.specs.Prelude.{◌≡◌, ◌==◌, nat_lt, ℕ, Bool, true, List, [], ◌∷◌, Option, Some, None, if◌then◌else◌}
use Rattle.std.specs.Ordering.{nat_cmp}
use Rattle.std.specs.BTreeMap.{get}
use Rattle.array_journal.specs.declared.entry.Entry.{Entry}
use Rattle.journal_index.specs.declared.stamps.Stamps.{Stamps}

-- the greater of a stamp and the one so far, if there is one
abbrev pub greater_of : Option ℕ → ℕ → ℕ
greater_of None stamp = stamp
greater_of (Some greatest) stamp = if nat_lt greatest stamp then stamp else greatest

-- the greatest stamp of a lock's entries
abbrev pub greatest_of : ℕ → List Entry → Option ℕ
greatest_of lock [] = None
greatest_of lock (e ∷ past) = if e.lock == lock then Some (greater_of (greatest_of lock past) e.stamp) else greatest_of lock past

-- a stamp is above the greatest, if there is one
abbrev pub is_above : Option ℕ → ℕ → Bool
is_above None stamp = true
is_above (Some greatest) stamp = nat_lt greatest stamp

-- each lock has its greatest stamp
abbrev pub KeepsStamps : List Entry → Stamps → Type 0
KeepsStamps past stamps = (lock : ℕ) → get nat_cmp stamps.greatest lock ≡ greatest_of lock past
