-- Own entries: those that carry a command, or a call where no command makes them. Losses, wipes and notes carry
-- none. A law says that what others append leaves an owner's entries as they are, and that what is asked of them
-- can be asked of them alone.
use Rattle.std.specs.List.{AllByRecursion}
use Rattle.std.specs.Prelude.{◌≡◌, ◌==◌, ℕ, Bool, true, false, List, ◌++◌, filter, Some}
use Rattle.array_journal.specs.declared.at.At.{At}
use Rattle.array_journal.specs.declared.entry.Entry.{Entry}
use Rattle.array_journal.specs.declared.event.Event.{Event}
use Rattle.array_journal.specs.declared.event.Event.TheVariants.{Fetch, Put, Diff, Take, Fold, Hold, Shut, Gone, Wiped, Fresh, Open, Close, Spoil, Note, Swap, Refuse}
use Rattle.array_journal.specs.Entries.{entry_at, some_at}
use Rattle.array_journal.specs.Commands.{is_open, task_of}
use Rattle.array_journal.specs.Merge.{HaveOwnNames}

-- whose an entry is: a command's, or a call's where no command makes it
pub data Owner : Type 0 where
  OfCommand : ℕ → Owner
  OfCall : ℕ → Owner

-- the event carries this command, or this call
abbrev pub carries : Owner → Event → Bool
carries (OfCommand c) (Fetch command opened cdb row bytes) = command == c
carries (OfCommand c) (Put command opened cdb row bytes names) = command == c
carries (OfCommand c) (Diff command opened cdb row bytes sent dropped back) = command == c
carries (OfCommand c) (Take command opened cdb row bytes) = command == c
carries (OfCommand c) (Fold command opened cdb row bytes names) = command == c
carries (OfCommand c) (Hold command opened cdb row bytes kept names back) = command == c
carries (OfCommand c) (Shut command opened acted lost) = command == c
carries (OfCommand c) (Gone life call commands) = false
carries (OfCommand c) (Wiped what call commands) = false
carries (OfCommand c) (Fresh call swap) = false
carries (OfCommand c) (Open command task) = command == c
carries (OfCommand c) (Close command done names cause bytes) = command == c
carries (OfCommand c) (Spoil command diff loss shut) = command == c
carries (OfCommand c) (Note slot lost) = false
carries (OfCommand c) (Swap slot call) = false
carries (OfCommand c) (Refuse call piece why) = false
carries (OfCall k) (Fetch command opened cdb row bytes) = false
carries (OfCall k) (Put command opened cdb row bytes names) = false
carries (OfCall k) (Diff command opened cdb row bytes sent dropped back) = false
carries (OfCall k) (Take command opened cdb row bytes) = false
carries (OfCall k) (Fold command opened cdb row bytes names) = false
carries (OfCall k) (Hold command opened cdb row bytes kept names back) = false
carries (OfCall k) (Shut command opened acted lost) = false
carries (OfCall k) (Gone life call commands) = false
carries (OfCall k) (Wiped what call commands) = false
carries (OfCall k) (Fresh call swap) = call == k
carries (OfCall k) (Open command task) = false
carries (OfCall k) (Close command done names cause bytes) = false
carries (OfCall k) (Spoil command diff loss shut) = false
carries (OfCall k) (Note slot lost) = false
carries (OfCall k) (Swap slot call) = call == k
carries (OfCall k) (Refuse call piece why) = call == k

-- an owner's entries
abbrev pub mine : Owner → List Entry → List Entry
mine owner past = filter (λ (e : Entry). carries owner e.event) past

-- what others append leaves an owner's entries as they are
abbrev pub OthersLeaveMine : Type 0
OthersLeaveMine =
    (owner : Owner) (others past : List Entry) → AllByRecursion (λ (e : Entry). carries owner e.event ≡ false) others →
    mine owner (others ++ past) ≡ mine owner past

-- a named entry that carries the owner stands in a journal exactly where it stands in the owner's entries
pub record StandsAlike (owner : Owner) (past : List Entry) (name : At) (event : Event) : Type 0 where
  pub in_own : entry_at name past ≡ Some event → entry_at name (mine owner past) ≡ Some event
  pub in_all : entry_at name (mine owner past) ≡ Some event → entry_at name past ≡ Some event

abbrev pub OwnEntriesStand : Type 0
OwnEntriesStand =
    (owner : Owner) (past : List Entry) (name : At) (event : Event) → HaveOwnNames past → carries owner event ≡ true → StandsAlike owner past name event

-- only events that carry the owner pass
abbrev pub IsOwnTest : Owner → (Event → Bool) → Type 0
IsOwnTest owner test = (e : Event) → test e ≡ true → carries owner e ≡ true

-- that such an event stands, or doesn't, is the same of a journal and of the owner's entries
abbrev pub OwnTestsAgree : Type 0
OwnTestsAgree = (owner : Owner) (lock : ℕ) (test : Event → Bool) (past : List Entry) → IsOwnTest owner test → some_at lock test past ≡ some_at lock test (mine owner past)

-- the task of a command, and that it is open, is seen in its own entries
pub record SeenInOwn (c : ℕ) (past : List Entry) : Type 0 where
  pub task : task_of c past ≡ task_of c (mine (OfCommand c) past)
  pub openness : is_open c past ≡ is_open c (mine (OfCommand c) past)

abbrev pub CommandsSeenInOwn : Type 0
CommandsSeenInOwn = (c : ℕ) (past : List Entry) → SeenInOwn c past
