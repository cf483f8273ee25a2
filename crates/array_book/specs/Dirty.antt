-- The list of dirty stripes.
use Rattle.std.specs.Prelude.{◌≡◌, ℕ, List}
use Rattle.dirty_list.specs.Listings.{command_of}
use Rattle.array_journal.specs.declared.entry.Entry.{Entry}
use Rattle.array_journal.specs.Listed.{listed_for}
use Rattle.array_book.specs.declared.dirty.DirtyStripes.{DirtyStripes}

-- what is kept are the stripes that are listed after these entries, each with its command
pub record KeepsListed (past : List Entry) (m : DirtyStripes) : Type 0 where
  pub listed : (stripe : ℕ) → command_of stripe m.listed ≡ listed_for stripe past
