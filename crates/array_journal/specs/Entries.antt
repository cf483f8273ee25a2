-- Entries and their names. A list of entries called past has the newest entry first.
use Rattle.std.specs.Prelude.{◌==◌, ◌&&◌, ◌||◌, nat_lt, not, ℕ, Bool, true, false, List, [], ◌∷◌, Option, Some, None, suc, if◌then◌else◌}
use Rattle.array_journal.specs.declared.at.At.{At}
use Rattle.array_journal.specs.declared.entry.Entry.{Entry}
use Rattle.array_journal.specs.declared.event.Event.{Event}

-- the name of an entry
abbrev pub name_of : Entry → At
name_of e = record { stamp = e.stamp; lock = e.lock }

-- two names are one
abbrev pub same_at : At → At → Bool
same_at a b = (a.stamp == b.stamp) && (a.lock == b.lock)

-- the order of a journal: by stamps, and by locks where stamps are equal
abbrev pub at_lt : At → At → Bool
at_lt a b = nat_lt a.stamp b.stamp || ((a.stamp == b.stamp) && nat_lt a.lock b.lock)

-- what the entry of a name says
abbrev pub entry_at : At → List Entry → Option Event
entry_at name [] = None
entry_at name (e ∷ past) = if same_at name (name_of e) then Some e.event else entry_at name past

-- some entry of a lock says so
abbrev pub some_at : ℕ → (Event → Bool) → List Entry → Bool
some_at lock test [] = false
some_at lock test (e ∷ past) = ((e.lock == lock) && test e.event) || some_at lock test past

-- the name of the newest entry of a lock that says so
abbrev pub newest_at : ℕ → (Event → Bool) → List Entry → Option At
newest_at lock test [] = None
newest_at lock test (e ∷ past) = if (e.lock == lock) && test e.event then Some (name_of e) else newest_at lock test past

-- how many entries of a lock say so
abbrev pub count_at : ℕ → (Event → Bool) → List Entry → ℕ
count_at lock test [] = 0
count_at lock test (e ∷ past) = if (e.lock == lock) && test e.event then suc (count_at lock test past) else count_at lock test past

-- how many entries of a lock with a smaller stamp say so
abbrev pub count_before : ℕ → (Event → Bool) → ℕ → List Entry → ℕ
count_before lock test stamp [] = 0
count_before lock test stamp (e ∷ past) =
    if (e.lock == lock) && nat_lt e.stamp stamp && test e.event then suc (count_before lock test stamp past) else count_before lock test stamp past

-- each entry of a lock has a smaller stamp
abbrev pub stamps_below : ℕ → ℕ → List Entry → Bool
stamps_below lock stamp [] = true
stamps_below lock stamp (e ∷ past) = (not (e.lock == lock) || nat_lt e.stamp stamp) && stamps_below lock stamp past
