-- The places of named entries. A list of entries called past has the newest entry first; places count from the oldest.
use Rattle.std.specs.Prelude.{◌≡◌, ◌+◌, ◌*◌, ◌<◌, ℕ, List, [], ◌∷◌, Option, Some, None, length, slice_get, if◌then◌else◌}
use Rattle.array_journal.specs.declared.at.At.{At}
use Rattle.array_journal.specs.declared.entry.Entry.{Entry}
use Rattle.array_journal.specs.declared.event.Event.{Event}
use Rattle.array_journal.specs.Entries.{name_of, same_at}
use Rattle.journal_index.specs.declared.names.NameIndex.{NameIndex}
use Rattle.journal_index.specs.Rising.{AreRising, place_in}

-- the place of the newest entry of a name
abbrev pub place_of : At → List Entry → Option ℕ
place_of name [] = None
place_of name (e ∷ past) = if same_at name (name_of e) then Some (length past) else place_of name past

-- what an entry says, if there is one
abbrev pub event_of : Option Entry → Option Event
event_of None = None
event_of (Some e) = Some e.event

-- what the entry at a place says, if there is one, among entries with the oldest first
abbrev pub event_at : Option ℕ → List Entry → Option Event
event_at None entries = None
event_at (Some place) entries = event_of (slice_get entries place)

-- a name as one number, in the order of a journal, as a lock is below 256
abbrev pub key_of : At → ℕ
key_of name = name.stamp * 256 + name.lock

-- each name has its place
pub record KeepsNames (past : List Entry) (names : NameIndex) : Type 0 where
  pub rising : AreRising names.places
  pub places : (name : At) → name.lock < 256 → place_in names.places (key_of name) ≡ place_of name past
