-- Which commands ended, and which of them are closed as done. A list called past has the newest entry first.
use Rattle.std.specs.Prelude.{◌≡◌, ℕ, Bool, true, false, List, Option, Some, None}
use Rattle.array_journal.specs.declared.entry.Entry.{Entry}
use Rattle.array_journal.specs.Commands.{ends_command}
use Rattle.array_journal.specs.Entries.{some_at}
use Rattle.array_journal.specs.Lives.{closes_done}
use Rattle.array_book.specs.declared.commands.endings.Ending.{Ending}
use Rattle.array_book.specs.declared.commands.endings.Ending.TheVariants.{Awaited, Ended, Done}
use Rattle.array_book.specs.declared.commands.endings.Endings.{Endings}
use Rattle.array_book.specs.Numbered.{value_of}

-- what is kept of a command says that it ended
abbrev pub has_ended_by : Option Ending → Bool
has_ended_by None = false
has_ended_by (Some Awaited) = false
has_ended_by (Some Ended) = true
has_ended_by (Some Done) = true

-- and that it is closed as done
abbrev pub is_done_by : Option Ending → Bool
is_done_by None = false
is_done_by (Some Awaited) = false
is_done_by (Some Ended) = false
is_done_by (Some Done) = true

-- the command is kept as one that ended
abbrev pub has_ended_in : Endings → ℕ → Bool
has_ended_in part c = has_ended_by (value_of part.ended c)

-- and as one that is closed as done
abbrev pub is_done_in : Endings → ℕ → Bool
is_done_in part c = is_done_by (value_of part.ended c)

pub record KeepsEndings (past : List Entry) (part : Endings) : Type 0 where
  pub ended : (c : ℕ) → has_ended_in part c ≡ some_at 0 (ends_command c) past
  pub done : (c : ℕ) → is_done_in part c ≡ some_at 0 (closes_done c) past
