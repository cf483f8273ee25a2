-- The entries of one lock as a program keeps them.
use Rattle.std.specs.Prelude.{ℕ, List, map}
use Rattle.array_journal.specs.declared.entry.Entry.{Entry}

-- entries, the oldest first, and how many more there is room for without taking memory
pub record EntryList : Type 0 where
  pub list : List Entry
  pub room : ℕ

-- the entries of some lists, list by list
abbrev pub lists_in : List EntryList → List (List Entry)
lists_in lists = map (λ (l : EntryList). l.list) lists
