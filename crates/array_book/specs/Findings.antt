-- What the book finds over its own entries holds over each journal that has these at the book's lock: so whoever keeps the
-- entries of all locks knows that the book's entries may follow them. A journal has the newest entry first here.
use Rattle.std.specs.Prelude.{◌≡◌, ◌<◌, ℕ, true, false, List}
use Rattle.array_journal.specs.declared.at.At.{At}
use Rattle.array_journal.specs.declared.entry.Entry.{Entry}
use Rattle.array_journal.specs.declared.setting.Setting.{Setting}
use Rattle.array_journal.specs.declared.task.Task.{Task}
use Rattle.array_journal.specs.Entries.{stamps_below}
use Rattle.array_journal.specs.Laws.{lane}
use Rattle.array_journal.specs.Lives.{swap_count, is_unfitted}
use Rattle.array_journal.specs.May.{is_loss_in, MaySwap}
use Rattle.array_journal.specs.Parts.{Named, FoundOpen, FoundNote}
use Rattle.array_book.specs.Ledgers.{AreInOrder, newest_stamp}

-- that a command may be opened
abbrev pub OpensAlike : Type 0
OpensAlike = (s : Setting) (c : ℕ) (task : Task) (journal : List Entry) → FoundOpen s (lane 0 journal) c task → FoundOpen s journal c task

-- that a slot may be swapped
abbrev pub SwapsAlike : Type 0
SwapsAlike = (s : Setting) (slot : ℕ) (journal : List Entry) → MaySwap s (lane 0 journal) slot → MaySwap s journal slot

-- that a loss may be noted, where the entry of its name has the life that was handed in
abbrev pub NotesAlike : Type 0
NotesAlike =
    (slot life : ℕ) (gone : At) (journal : List Entry) → is_unfitted slot (lane 0 journal) ≡ false → life ≡ swap_count slot (lane 0 journal) →
    Named journal gone (is_loss_in life) → FoundNote journal slot gone

-- and an entry under a greater stamp than the book's newest comes later than each of its entries
abbrev pub NewestIsGreatest : Type 0
NewestIsGreatest = (stamp : ℕ) (past : List Entry) → AreInOrder past → newest_stamp past < stamp → stamps_below 0 stamp past ≡ true
