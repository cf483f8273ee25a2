-- The calls of one host, and how far it has come in them.
use Rattle.std.specs.Prelude.{◌≡◌, ◌<◌, ◌≤◌, ◌+◌, ◌^◌, ◌++◌, ℕ, suc, ◌==◌, if◌then◌else◌, List, [], ◌∷◌, drop, length, Option, Some}
use Rattle.host_scripts.specs.declared.script.Action.{Action}
use Rattle.host_scripts.specs.declared.script.Call.{Call}
use Rattle.unit_plans.specs.declared.doings.Reply.{Reply}
use Rattle.unit_plans.specs.declared.doings.Reply.TheVariants.{Good}
use Rattle.array_control.specs.declared.call_run.CallRun.{CallRun}
use Rattle.array_control.specs.declared.host_run.NextCall.{NextCall}

-- the calls of a host among some calls, each with its number; these count from this one on
abbrev pub calls_from : ℕ → ℕ → List Call → List (ℕ × Action)
calls_from host number [] = []
calls_from host number (call ∷ calls) =
    if call.host == host then (number, call.action) ∷ calls_from host (suc number) calls else calls_from host (suc number) calls

-- the calls of a host, numbered by their places among all calls, from 1
abbrev pub calls_of : ℕ → List Call → List (ℕ × Action)
calls_of host calls = calls_from host 1 calls

-- a host, all calls, what its first ones were told, in their order, and the next one where it was taken up
pub record HostCalls : Type 0 where
  pub host : ℕ
  pub calls : List Call
  pub replies : List Reply
  pub current : Option CallRun

-- its calls that were told nothing yet
abbrev pub left_of : HostCalls → List (ℕ × Action)
left_of run = drop (length run.replies) (calls_of run.host run.calls)

abbrev pub next_as : NextCall → ℕ × Action
next_as call = (call.number, call.action.now)

-- one more call was told this
abbrev pub with_reply : HostCalls → Reply → HostCalls
with_reply run reply = record run { replies = run.replies ++ reply ∷ [] }

-- a call was gone on with: it is told its reply where all its pieces are done, and else is kept
abbrev pub settled : HostCalls → CallRun → HostCalls
settled run call = if call.piece == call.count then with_reply run (Good call.read) else record run { current = Some call }

-- A place among all calls: the host's calls from there on are those that were told nothing, all but its first so many.
pub record IsPlace (host place : ℕ) (calls : List Call) (told : ℕ) : Type 0 where
  pub in_calls : place ≤ length calls
  pub short : length calls < 2 ^ 32
  pub answered : told ≤ length (calls_of host calls)
  pub left : calls_from host (place + 1) (drop place calls) ≡ drop told (calls_of host calls)
