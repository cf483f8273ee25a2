-- The state of the book, as a function of the entries so far. Those of other locks change nothing of it.
use Rattle.std.specs.Prelude.{List}
use Rattle.array_journal.specs.declared.entry.Entry.{Entry}
use Rattle.array_book.specs.declared.state.BookState.{BookState}
use Rattle.array_book.specs.Dirty.{KeepsListed}
use Rattle.array_book.specs.KnownCommands.{KeepsCommands}
use Rattle.array_book.specs.Noted.{KeepsNoted}
use Rattle.array_book.specs.Slots.{KeepsSlots}

-- the state of these entries, the newest first
pub record KeepsBook (past : List Entry) (state : BookState) : Type 0 where
  pub commands : KeepsCommands past state.commands
  pub slots : KeepsSlots past state.slots
  pub noted : KeepsNoted past state.noted
  pub dirty : KeepsListed past state.dirty
