-- How calls of the operator come through their pieces, entry by entry.
use Rattle.std.specs.Prelude.{◌≡◌, ◌<◌, ◌++◌, ℕ, suc, true, false, List, [], ◌∷◌, Option, Some}
use Rattle.stripe_layout.specs.declared.geometry.Geometry.{Geometry}
use Rattle.stripe_layout.specs.Layout.{stripes_of}
use Rattle.array_journal.specs.declared.at.At.{At}
use Rattle.array_journal.specs.declared.entry.Entry.{Entry}
use Rattle.array_journal.specs.declared.event.Event.TheVariants.{Open, Close, Refuse}
use Rattle.array_journal.specs.declared.event.Why.{Why}
use Rattle.array_journal.specs.declared.task.Task.{Task}
use Rattle.array_journal.specs.Calls.{IsNewCall}
use Rattle.array_journal.specs.Entries.{name_of}
use Rattle.host_scripts.specs.declared.script.Action.TheVariants as actions
use Rattle.host_scripts.specs.declared.script.Call.{Call}
use Rattle.host_scripts.specs.declared.script.Script.{Script}
use Rattle.host_requests.specs.Requests.{Rebuilds, Resyncs}
use Rattle.stripe_check.specs.declared.command_summary.Tally.{Tally}
use Rattle.stripe_check.specs.Asked.{IsServed}
use Rattle.stripe_check.specs.Replies.{reply_line}
use Rattle.stripe_check.specs.Steps.{call_of, step_by, step_list, steps_of}
use Rattle.stripe_check.specs.Tallies.{untold, more_done}
use Rattle.array_control.specs.Passes.{HasPassed, IsPassing, IsOver, tally_refused}
use Rattle.array_control.specs.Progress.{AreOfOthers, OpenNo, is_doing}
use Rattle.array_control.specs.ReplyLaws.{told_line}
use Rattle.unit_plans.specs.declared.doings.Reply.TheVariants.{Done}

-- a new call is at its first piece
abbrev pub NewPassBegins : Type 0
NewPassBegins = (n count : ℕ) (past : List Entry) → IsNewCall n past → HasPassed n count 0 untold past

-- a command is opened for the piece
abbrev pub UnitBegins : Type 0
UnitBegins = (n count piece : ℕ) (tally : Tally) (c : ℕ) (task : Task) (e : Entry) (past : List Entry)
    → HasPassed n count piece tally past → piece < count → e.lock ≡ 0 → e.event ≡ Open c task → task.call ≡ n → task.piece ≡ piece
    → IsPassing n count piece tally c task (e ∷ past)

-- its acts leave the call there
abbrev pub UnitGoesOn : Type 0
UnitGoesOn = (n count piece : ℕ) (tally : Tally) (c : ℕ) (task : Task) (e : Entry) (past : List Entry)
    → IsPassing n count piece tally c task past → is_doing c e.event ≡ true → IsPassing n count piece tally c task (e ∷ past)

-- with its close as done the piece is done
abbrev pub UnitEnds : Type 0
UnitEnds = (n count piece : ℕ) (tally : Tally) (c : ℕ) (task : Task) (names : List At) (cause : Option At) (made : List ℕ) (e : Entry) (past : List Entry)
    → IsPassing n count piece tally c task past → e.event ≡ Close c true names cause made
    → HasPassed n count (suc piece) (more_done tally) (e ∷ past)

-- where it is closed without effect, the piece may be begun again
abbrev pub GivenUpUnitStays : Type 0
GivenUpUnitStays = (n count piece : ℕ) (tally : Tally) (c : ℕ) (task : Task) (names : List At) (cause : Option At) (made : List ℕ)
    (e : Entry) (past : List Entry)
    → IsPassing n count piece tally c task past → e.event ≡ Close c false names cause made
    → HasPassed n count piece tally (e ∷ past)

-- a piece that is refused is passed
abbrev pub RefusedUnitIsPassed : Type 0
RefusedUnitIsPassed = (n count piece : ℕ) (tally : Tally) (why : Why) (e : Entry) (past : List Entry)
    → HasPassed n count piece tally past → piece < count → e.event ≡ Refuse n piece why
    → HasPassed n count (suc piece) (tally_refused why tally) (e ∷ past)

-- behind the last piece the call is over
abbrev pub LastUnitEnds : Type 0
LastUnitEnds = (n count : ℕ) (tally : Tally) (past : List Entry) → HasPassed n count count tally past → IsOver n count tally past

-- entries of other calls leave a call where it is
pub record OthersLeavePass (n count : ℕ) (tally : Tally) (others past : List Entry) : Type 0 where
  pub passed : (piece : ℕ) → HasPassed n count piece tally past → HasPassed n count piece tally (others ++ past)
  pub passing : (piece c : ℕ) (task : Task) → OpenNo c others
      → IsPassing n count piece tally c task past → IsPassing n count piece tally c task (others ++ past)
  pub over : IsOver n count tally past → IsOver n count tally (others ++ past)

abbrev pub OthersLeavePasses : Type 0
OthersLeavePasses = (n count : ℕ) (tally : Tally) (others past : List Entry) → AreOfOthers n others past → OthersLeavePass n count tally others past

-- a call that is over is served, and its line in a report has its tally
pub record IsToldOver (script : Script) (whole past : List Entry) (n : ℕ) (tally : Tally) : Type 0 where
  pub rebuild : (slot : ℕ) → IsServed script whole (Rebuilds slot) (steps_of n past)
  pub resync : IsServed script whole Resyncs (steps_of n past)
  pub rebuild_line : (g : Geometry) (host slot : ℕ) →
      let call : Call = record { host = host; action = actions.Rebuild slot } in reply_line g past n call ≡ told_line n call (Done tally.done tally.left)
  pub resync_line : (g : Geometry) (host : ℕ) →
      let call : Call = record { host = host; action = actions.Resync } in reply_line g past n call ≡ told_line n call (Done tally.done tally.left)

abbrev pub PassesAreTold : Type 0
PassesAreTold = (script : Script) (whole past : List Entry) (n : ℕ) (tally : Tally) → IsOver n (stripes_of script.geometry) tally past
    → IsToldOver script whole past n tally

-- ---- calls of an entry or two

-- a new call has no steps, and each entry of a call adds its step
abbrev pub NewCallsHaveNoSteps : Type 0
NewCallsHaveNoSteps = (n : ℕ) (past : List Entry) → IsNewCall n past → steps_of n past ≡ []

abbrev pub EntriesAddSteps : Type 0
EntriesAddSteps = (n : ℕ) (e : Entry) (past : List Entry) → call_of e.event past ≡ Some n
    → steps_of n (e ∷ past) ≡ steps_of n past ++ step_list (step_by e.event e.lock (name_of e))

abbrev pub OthersAddNoSteps : Type 0
OthersAddNoSteps = (n : ℕ) (others past : List Entry) → AreOfOthers n others past → steps_of n (others ++ past) ≡ steps_of n past
