-- What a controller's steps do to its journal and its targets.
use Rattle.std.specs.Prelude.{◌+◌, ℕ, List, [], ◌∷◌, ◌++◌, length}
use Rattle.array_journal.specs.declared.at.At.{At}
use Rattle.array_journal.specs.declared.entry.Entry.{Entry}
use Rattle.array_journal.specs.declared.event.Event.{Event}

-- the name of the next entry of a journal, the oldest first
abbrev pub next_at : List Entry → ℕ → At
next_at journal lock = record { stamp = length journal + 1; lock = lock }

-- the journal with one more entry
abbrev pub with_next : List Entry → ℕ → Event → List Entry
with_next journal lock event = journal ++ record { stamp = length journal + 1; lock = lock; event = event } ∷ []
