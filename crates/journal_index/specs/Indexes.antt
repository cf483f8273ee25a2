-- What an index keeps of the entries so far.
use Rattle.std.specs.Prelude.{List}
use Rattle.array_journal.specs.declared.entry.Entry.{Entry}
use Rattle.array_book.specs.BookStates.{KeepsBook}
use Rattle.journal_index.specs.declared.index.Index.{Index}
use Rattle.journal_index.specs.CommandActs.{KeepsActs}
use Rattle.journal_index.specs.Disks.{KeepsDisks}
use Rattle.journal_index.specs.Names.{KeepsNames}
use Rattle.journal_index.specs.Stamps.{KeepsStamps}

-- an index of these entries, the newest first
pub record IsIndexOf (past : List Entry) (index : Index) : Type 0 where
  pub names : KeepsNames past index.names
  pub stamps : KeepsStamps past index.stamps
  pub disks : KeepsDisks past index.disks
  pub book : KeepsBook past index.book
  pub acts : KeepsActs past index.acts
