-- A call that has come to its end is served, and its reply is what a report says of it.
use Rattle.std.specs.Prelude.{◌≡◌, ◌++◌, ℕ, List, [], ◌∷◌, Option, Some, length}
use Rattle.std.specs.Fmt.{decimal}
use Rattle.stripe_layout.specs.declared.geometry.Geometry.{Geometry}
use Rattle.sense_data.specs.declared.senses.Sense.{Sense}
use Rattle.text_fields.specs.Spelling.{line}
use Rattle.array_journal.specs.declared.entry.Entry.{Entry}
use Rattle.array_journal.specs.declared.event.Why.TheVariants.{Illegal}
use Rattle.host_scripts.specs.declared.script.Call.{Call}
use Rattle.host_scripts.specs.declared.script.Script.{Script}
use Rattle.host_scripts.specs.Scripts.{letter}
use Rattle.host_requests.specs.Begins.{transfer_pieces}
use Rattle.host_requests.specs.Requests.{Fails, Moves, Transfer}
use Rattle.stripe_check.specs.declared.failure.Failure.{Failure}
use Rattle.stripe_check.specs.declared.failure.Failure.TheVariants as failures
use Rattle.stripe_check.specs.Asked.{IsServed}
use Rattle.stripe_check.specs.Replies.{reply_line}
use Rattle.stripe_check.specs.Steps.{steps_of}
use Rattle.stripe_check.specs.Tallies.{tally_of}
use Rattle.array_control.specs.Progress.{HasEnded, IsRefused}
use Rattle.array_control.specs.Replies.{reply_of, told_text}
use Rattle.unit_plans.specs.declared.doings.Reply.{Reply}

-- the line of a report for a reply to a call of a number
abbrev pub told_line : ℕ → Call → Reply → List ℕ
told_line n call reply = line (decimal n ++ (32 ∷ letter call.host ∷ 32 ∷ told_text call.action reply))

-- blocks that are moved
abbrev pub EndedCallsAreServed : Type 0
EndedCallsAreServed = (script : Script) (whole past : List Entry) (n : ℕ) (t : Transfer) (bytes : List ℕ) (failure : Option Failure)
    → HasEnded script.geometry n (length (transfer_pieces script t)) bytes failure past → IsServed script whole (Moves t) (steps_of n past)

abbrev pub EndedCallsAreReported : Type 0
EndedCallsAreReported = (g : Geometry) (past : List Entry) (n count : ℕ) (call : Call) (bytes : List ℕ) (failure : Option Failure)
    → HasEnded g n count bytes failure past → reply_line g past n call ≡ told_line n call (reply_of call.action bytes failure (tally_of n past))

-- calls that fail a test
abbrev pub RefusedCallsAreServed : Type 0
RefusedCallsAreServed = (script : Script) (whole past : List Entry) (n : ℕ) (sense : Sense)
    → IsRefused script.geometry n sense past → IsServed script whole (Fails sense) (steps_of n past)

abbrev pub RefusedCallsAreReported : Type 0
RefusedCallsAreReported = (g : Geometry) (past : List Entry) (n : ℕ) (call : Call) (sense : Sense)
    → IsRefused g n sense past
    → reply_line g past n call ≡ told_line n call (reply_of call.action [] (Some (failures.Refused (Illegal sense))) (tally_of n past))
