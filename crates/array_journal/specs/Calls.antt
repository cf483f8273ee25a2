-- Calls in a journal: which entries carry a call, and that a call is new to some entries. A call is made once, so what
-- serves it asks that it is new to what its caller has made so far.
use Rattle.std.specs.List.{AllByRecursion}
use Rattle.std.specs.Prelude.{◌≡◌, ◌≢◌, ◌==◌, ◌||◌, ℕ, Bool, false, List, [], ◌++◌, Some, ◌↔◌}
use Rattle.array_journal.specs.declared.at.At.{At}
use Rattle.array_journal.specs.declared.entry.Entry.{Entry}
use Rattle.array_journal.specs.declared.event.Event.{Event}
use Rattle.array_journal.specs.declared.event.Event.TheVariants.{Fetch, Put, Diff, Take, Fold, Hold, Shut, Gone, Wiped, Fresh, Open, Close, Spoil, Note, Swap, Refuse}
use Rattle.array_journal.specs.declared.task.Task.{Task}
use Rattle.array_journal.specs.Entries.{entry_at}
use Rattle.array_journal.specs.OwnEntries.{OfCall, mine}

-- the event has this call as its own: losses and wipes too, whoever's blocks they discard
abbrev pub carries_call : ℕ → Event → Bool
carries_call k (Fetch command opened cdb row bytes) = false
carries_call k (Put command opened cdb row bytes names) = false
carries_call k (Diff command opened cdb row bytes sent dropped back) = false
carries_call k (Take command opened cdb row bytes) = false
carries_call k (Fold command opened cdb row bytes names) = false
carries_call k (Hold command opened cdb row bytes kept names back) = false
carries_call k (Shut command opened acted lost) = false
carries_call k (Gone life call commands) = call == k
carries_call k (Wiped what call commands) = call == k
carries_call k (Fresh call swap) = call == k
carries_call k (Open command task) = false
carries_call k (Close command done names cause bytes) = false
carries_call k (Spoil command diff loss shut) = false
carries_call k (Note slot lost) = false
carries_call k (Swap slot call) = call == k
carries_call k (Refuse call piece why) = call == k

-- the event opens a command for this call
abbrev pub opens_for : ℕ → Event → Bool
opens_for k (Open command task) = task.call == k
opens_for k _ = false

-- the event is of this call, by itself or by the command that it opens
abbrev pub is_of_call : ℕ → Event → Bool
is_of_call k event = carries_call k event || opens_for k event

-- the call is new to these entries
abbrev pub IsNewCall : ℕ → List Entry → Type 0
IsNewCall k entries = AllByRecursion (λ (e : Entry). is_of_call k e.event ≡ false) entries

-- a call is new to entries and others before them exactly where it is new to both
abbrev pub NewToBoth : Type 0
NewToBoth = (k : ℕ) (others past : List Entry) → IsNewCall k (others ++ past) ↔ (IsNewCall k others × IsNewCall k past)

-- a new call has no entries, and no command was opened for it
pub record HasNothing (k : ℕ) (entries : List Entry) : Type 0 where
  pub no_entries : mine (OfCall k) entries ≡ []
  pub no_commands : (opened : At) (c : ℕ) (task : Task) → entry_at opened entries ≡ Some (Open c task) → task.call ≢ k

abbrev pub NewCallsHaveNothing : Type 0
NewCallsHaveNothing = (k : ℕ) (entries : List Entry) → IsNewCall k entries → HasNothing k entries
