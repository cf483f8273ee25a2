-- Lists of entries and the journal that they make together, all with the oldest entry first.
use Rattle.std.specs.List.{IsDistinct, AllByRecursion}
use Rattle.std.specs.Prelude.{◌≡◌, ℕ, suc, false, List, [], ◌∷◌, ◌++◌, map}
use Rattle.array_journal.specs.declared.entry.Entry.{Entry}
use Rattle.array_journal.specs.Entries.{name_of, same_at, at_lt}
use Rattle.array_journal.specs.May.{Rise}

-- the entries of some lists, one list after the other
abbrev pub joined : List (List Entry) → List Entry
joined [] = []
joined (entries ∷ lists) = entries ++ joined lists

-- the entries' names rise strictly
abbrev pub Rises : List Entry → Type 0
Rises entries = Rise (map name_of entries)

-- no entry's name comes before that of the entry in front of it
abbrev pub NeverFalls : List Entry → Type 0
NeverFalls [] = Unit {0}
NeverFalls (a ∷ []) = Unit {0}
NeverFalls (a ∷ b ∷ entries) = (at_lt (name_of b) (name_of a) ≡ false) × NeverFalls (b ∷ entries)

-- no two entries have one name
abbrev pub HaveOwnNames : List Entry → Type 0
HaveOwnNames entries = IsDistinct same_at (map name_of entries)

-- the lists are of the locks from this one on, one of each, and each rises strictly
abbrev pub AreOfLocks : ℕ → List (List Entry) → Type 0
AreOfLocks lock [] = Unit {0}
AreOfLocks lock (entries ∷ lists) = (AllByRecursion (λ (e : Entry). e.lock ≡ lock) entries × Rises entries) × AreOfLocks (suc lock) lists
