-- The book as its callers see it: what the array is set to, and the entries that the book made, the newest first.
use Rattle.std.specs.Prelude.{◌≡◌, ◌<◌, ◌+◌, ℕ, max, List, [], ◌∷◌}
use Rattle.array_journal.specs.declared.at.At.{At}
use Rattle.array_journal.specs.declared.entry.Entry.{Entry}
use Rattle.array_journal.specs.declared.event.Event.{Event}
use Rattle.array_journal.specs.declared.event.Event.TheVariants.{Open}
use Rattle.array_journal.specs.declared.setting.Setting.{Setting}
use Rattle.array_journal.specs.Commands.{open_count}
use Rattle.array_journal.specs.May.{IsTask}

pub record Ledger : Type 0 where
  pub setting : Setting
  pub past : List Entry

-- an entry of the book
abbrev pub book_entry : ℕ → Event → Entry
book_entry stamp event = record { stamp = stamp; lock = 0; event = event }

abbrev pub newest_stamp : List Entry → ℕ
newest_stamp [] = 0
newest_stamp (e ∷ past) = e.stamp

-- the name of the next entry: its stamp comes after the newest here and after the one that its caller has seen
abbrev pub next_name : Ledger → ℕ → At
next_name book stamp = record { stamp = max (newest_stamp book.past) stamp + 1; lock = 0 }

-- the book with one more event
abbrev pub with_event : Ledger → ℕ → Event → Ledger
with_event book stamp event = record { setting = book.setting; past = book_entry (max (newest_stamp book.past) stamp + 1) event ∷ book.past }

-- an opening has the number of the openings before it
abbrev pub IsNumbered : Event → List Entry → Type 0
IsNumbered (Open command task) past = command ≡ open_count past
IsNumbered _ past = Unit {0}

-- so has each
abbrev pub AreNumbered : List Entry → Type 0
AreNumbered [] = Unit {0}
AreNumbered (e ∷ past) = IsNumbered e.event past × AreNumbered past

-- the task of an opening is sound
abbrev pub IsSoundOpening : Setting → Event → Type 0
IsSoundOpening s (Open command task) = IsTask s task
IsSoundOpening s _ = Unit {0}

abbrev pub AreSound : Setting → List Entry → Type 0
AreSound s [] = Unit {0}
AreSound s (e ∷ past) = IsSoundOpening s e.event × AreSound s past

-- these are entries of the book, each with a greater stamp than those before it
abbrev pub AreInOrder : List Entry → Type 0
AreInOrder [] = Unit {0}
AreInOrder (e ∷ past) = (e.lock ≡ 0) × ((newest_stamp past < e.stamp) × AreInOrder past)
