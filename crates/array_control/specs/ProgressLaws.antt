-- How calls of hosts come through their pieces, entry by entry.
use Rattle.std.specs.Prelude.{◌≡◌, ◌<◌, ◌++◌, ℕ, suc, true, false, List, [], ◌∷◌, Option, Some, None}
use Rattle.stripe_layout.specs.declared.geometry.Geometry.{Geometry}
use Rattle.sense_data.specs.declared.senses.Sense.{Sense}
use Rattle.array_journal.specs.declared.at.At.{At}
use Rattle.array_journal.specs.declared.entry.Entry.{Entry}
use Rattle.array_journal.specs.declared.event.Event.TheVariants.{Open, Close, Spoil, Refuse}
use Rattle.array_journal.specs.declared.event.Why.{Why}
use Rattle.array_journal.specs.declared.event.Why.TheVariants.{Illegal}
use Rattle.array_journal.specs.declared.task.Task.{Task}
use Rattle.array_journal.specs.Calls.{IsNewCall}
use Rattle.stripe_check.specs.declared.failure.Failure.{Failure}
use Rattle.stripe_check.specs.declared.failure.Failure.TheVariants as failures
use Rattle.array_control.specs.Progress.{HasCome, IsServing, HasEnded, IsRefused, AreOfOthers, OpenNo, is_doing, AreDoings, bytes_by_act, bytes_by_acts, bytes_by_close}

-- a new call is at its first piece
abbrev pub NewCallBegins : Type 0
NewCallBegins = (g : Geometry) (n count : ℕ) (past : List Entry) → IsNewCall n past → HasCome g n count 0 [] past

-- one that fails a test is refused by its one entry
abbrev pub IllegalCallEnds : Type 0
IllegalCallEnds = (g : Geometry) (n : ℕ) (sense : Sense) (e : Entry) (past : List Entry) → IsNewCall n past → e.event ≡ Refuse n 0 (Illegal sense)
    → IsRefused g n sense (e ∷ past)

-- a command is opened for the piece
abbrev pub PieceBegins : Type 0
PieceBegins = (g : Geometry) (n count piece : ℕ) (bytes : List ℕ) (c : ℕ) (task : Task) (e : Entry) (past : List Entry)
    → HasCome g n count piece bytes past → piece < count → e.lock ≡ 0 → e.event ≡ Open c task → task.call ≡ n → task.piece ≡ piece
    → IsServing g n count piece bytes c task [] (e ∷ past)

-- each of its acts may tell more bytes
abbrev pub ActsGoOn : Type 0
ActsGoOn = (g : Geometry) (n count piece : ℕ) (bytes : List ℕ) (c : ℕ) (task : Task) (more : List ℕ) (e : Entry) (past : List Entry)
    → IsServing g n count piece bytes c task more past → is_doing c e.event ≡ true
    → IsServing g n count piece bytes c task (more ++ bytes_by_act task e.event) (e ∷ past)

-- with its close as done the piece is done
abbrev pub PieceEnds : Type 0
PieceEnds = (g : Geometry) (n count piece : ℕ) (bytes : List ℕ) (c : ℕ) (task : Task) (more : List ℕ) (names : List At) (cause : Option At) (made : List ℕ)
    (e : Entry) (past : List Entry)
    → IsServing g n count piece bytes c task more past → e.event ≡ Close c true names cause made
    → HasCome g n count (suc piece) (bytes ++ (more ++ bytes_by_close task made)) (e ∷ past)

-- so all entries of a command that is done move the call by one piece
abbrev pub WholePieceEnds : Type 0
WholePieceEnds = (g : Geometry) (n count piece : ℕ) (bytes : List ℕ) (c : ℕ) (task : Task) (names : List At) (cause : Option At) (made : List ℕ)
    (open_entry close_entry : Entry) (acts past : List Entry)
    → HasCome g n count piece bytes past → piece < count → open_entry.lock ≡ 0 → open_entry.event ≡ Open c task → task.call ≡ n → task.piece ≡ piece
    → AreDoings c acts → close_entry.event ≡ Close c true names cause made
    → HasCome g n count (suc piece) (bytes ++ (bytes_by_acts task acts ++ bytes_by_close task made)) (close_entry ∷ acts ++ open_entry ∷ past)

-- where it is closed without effect, and has told nothing, the piece may be begun again
abbrev pub GivenUpPieceStays : Type 0
GivenUpPieceStays = (g : Geometry) (n count piece : ℕ) (bytes : List ℕ) (c : ℕ) (task : Task) (names : List At) (cause : Option At) (made : List ℕ)
    (e : Entry) (past : List Entry)
    → IsServing g n count piece bytes c task [] past → e.event ≡ Close c false names cause made
    → HasCome g n count piece bytes (e ∷ past)

-- with a delta that is lost the call ends
abbrev pub SpoiltPieceEnds : Type 0
SpoiltPieceEnds = (g : Geometry) (n count piece : ℕ) (bytes : List ℕ) (c : ℕ) (task : Task) (more : List ℕ) (diff loss shut : At)
    (e : Entry) (past : List Entry)
    → IsServing g n count piece bytes c task more past → e.event ≡ Spoil c diff loss shut
    → HasEnded g n count (bytes ++ more) (Some failures.Spoilt) (e ∷ past)

-- so it does with a piece that is refused
abbrev pub RefusedPieceEnds : Type 0
RefusedPieceEnds = (g : Geometry) (n count piece : ℕ) (bytes : List ℕ) (why : Why) (e : Entry) (past : List Entry)
    → HasCome g n count piece bytes past → piece < count → e.event ≡ Refuse n piece why
    → HasEnded g n count bytes (Some (failures.Refused why)) (e ∷ past)

-- and where all its pieces are done
abbrev pub LastPieceEnds : Type 0
LastPieceEnds = (g : Geometry) (n count : ℕ) (bytes : List ℕ) (past : List Entry) → HasCome g n count count bytes past → HasEnded g n count bytes None past

-- Entries of other calls leave a call where it is. No command gets the number of one that is open.
pub record OthersLeave (g : Geometry) (n count : ℕ) (bytes : List ℕ) (others past : List Entry) : Type 0 where
  pub come : (piece : ℕ) → HasCome g n count piece bytes past → HasCome g n count piece bytes (others ++ past)
  pub serving : (piece c : ℕ) (task : Task) (more : List ℕ) → OpenNo c others
      → IsServing g n count piece bytes c task more past → IsServing g n count piece bytes c task more (others ++ past)
  pub ended : (failure : Option Failure) → HasEnded g n count bytes failure past → HasEnded g n count bytes failure (others ++ past)
  pub refused : (sense : Sense) → IsRefused g n sense past → IsRefused g n sense (others ++ past)

abbrev pub OthersLeaveCalls : Type 0
OthersLeaveCalls = (g : Geometry) (n count : ℕ) (bytes : List ℕ) (others past : List Entry) → AreOfOthers n others past
    → OthersLeave g n count bytes others past
