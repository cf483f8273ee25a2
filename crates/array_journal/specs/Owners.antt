-- What stands at a target of one command: whether it changed the medium, where it was shut, and what discarded what it
-- held. A list of entries called past has the newest entry first.
use Rattle.std.specs.Prelude.{ℕ, ◌+◌, Bool, List, Option}
use Rattle.array_journal.specs.declared.at.At.{At}
use Rattle.array_journal.specs.declared.entry.Entry.{Entry}
use Rattle.array_journal.specs.Entries.{some_at, newest_at}
use Rattle.array_journal.specs.Acts.{shuts_command, changes_medium}
use Rattle.array_journal.specs.May.{discards}

-- some put, diff or fold of command c stands at target i
abbrev pub has_acted : ℕ → ℕ → List Entry → Bool
has_acted i c past = some_at (i + 1) (changes_medium c) past

-- the newest entry that shut command c at target i
abbrev pub shut_at : ℕ → ℕ → List Entry → Option At
shut_at i c past = newest_at (i + 1) (shuts_command c) past

-- The newest entry that discarded what command c held at target i: a loss or a wipe of the buffers that has c among its
-- commands. A shut isn't one, though it lets go what its command holds.
abbrev pub discarded_at : ℕ → ℕ → List Entry → Option At
discarded_at i c past = newest_at (i + 1) (discards c) past
