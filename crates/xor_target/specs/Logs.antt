-- What a target's log is seen as.
use Rattle.std.specs.Prelude.{nat_lt, ℕ, Bool, List, [], ◌∷◌, length}
use Rattle.array_journal.specs.declared.entry.Entry.{Entry}
use Rattle.array_journal.specs.declared.event.Event.{Event}
use Rattle.array_journal.specs.declared.event.Event.TheVariants.{Gone, Wiped, Fresh}
use Rattle.array_journal.specs.Media.{drops}

-- A log: the target's number, its entries, the newest first, how many more entries there is room for, and for how many
-- owners, so that they take no memory.
pub record Logged : Type 0 where
  pub number : ℕ
  pub past : List Entry
  pub room : ℕ
  pub seats : ℕ

-- the stamp of the newest entry, 0 where there is none
abbrev pub last_stamp : List Entry → ℕ
last_stamp [] = 0
last_stamp (e ∷ past) = e.stamp

-- how many owners an event is written down for: those whose blocks it discards, or the one that acts or is shut
abbrev pub seats_of : Event → ℕ
seats_of (Gone life call commands) = length commands
seats_of (Wiped what call commands) = length commands
seats_of (Fresh call swap) = 0
seats_of _ = 1

-- the next request to a peer is to be dropped at target i
abbrev pub drops_next : ℕ → List Entry → Bool
drops_next i past = nat_lt 0 (drops i past)
