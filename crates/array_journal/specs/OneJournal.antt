-- The one journal of several lists of entries: all their entries, in the order of their names.
use Rattle.std.specs.Prelude.{◌≡◌, ◌≤◌, ℕ, List, [], ◌∷◌, length, if◌then◌else◌}
use Rattle.std.specs.List.{AllByRecursion}
use Rattle.array_journal.specs.declared.entry.Entry.{Entry}
use Rattle.array_journal.specs.Entries.{name_of, at_lt}
use Rattle.array_journal.specs.Merge.{joined, Rises, AreOfLocks}

-- an entry put before the first with a greater name
abbrev pub placed : Entry → List Entry → List Entry
placed e [] = e ∷ []
placed e (f ∷ entries) = if at_lt (name_of e) (name_of f) then e ∷ f ∷ entries else f ∷ placed e entries

-- some entries in the order of their names
abbrev pub by_name : List Entry → List Entry
by_name [] = []
by_name (e ∷ entries) = placed e (by_name entries)

-- the journal of some lists, the oldest entry first
unfoldable pub journal_of : List (List Entry) → List Entry
journal_of lists = by_name (joined lists)

-- The lists are of the locks from 0 on, one of each, with as many entries in all as stamps were given, none of them
-- above the last; and their journal rises.
pub record AreKept (stamp : ℕ) (lists : List (List Entry)) : Type 0 where
  pub of_locks : AreOfLocks 0 lists
  pub rises : Rises (journal_of lists)
  pub counted : stamp ≡ length (joined lists)
  pub up_to : AllByRecursion (λ (e : Entry). e.stamp ≤ stamp) (joined lists)
