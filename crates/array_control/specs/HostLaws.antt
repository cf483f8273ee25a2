-- How hosts stand in a journal, with the newest entry first, as it grows; and that what they were told is what a report says.
use Rattle.std.specs.Prelude.{◌≡◌, ◌≢◌, ℕ, List, [], None}
use Rattle.std.specs.List.{AllByRecursion}
use Rattle.array_journal.specs.declared.entry.Entry.{Entry}
use Rattle.array_journal.specs.Run.{Grows, IsSetting}
use Rattle.host_requests.specs.Requests.{Request, request_of}
use Rattle.host_requests.specs.Settings.{setting_of, most_blocks}
use Rattle.host_scripts.specs.declared.script.Action.{Action}
use Rattle.host_scripts.specs.declared.script.Call.{Call}
use Rattle.host_scripts.specs.declared.script.Script.{Script}
use Rattle.stripe_check.specs.Asked.{IsServed}
use Rattle.stripe_check.specs.Replies.{reply_line}
use Rattle.stripe_check.specs.Steps.{steps_of}
use Rattle.unit_plans.specs.declared.doings.Reply.{Reply}
use Rattle.unit_plans.specs.Buses.{BusSetting}
use Rattle.array_control.specs.Arrays.{HasGrownBy}
use Rattle.array_control.specs.Begins.{most_of}
use Rattle.array_control.specs.HostCalls.{HostCalls, calls_of}
use Rattle.array_control.specs.ReplyLaws.{told_line}
use Rattle.array_control.specs.Turns.{AreNew, AreOfHosts, StandsAt, WasTold}

-- a host of whose calls there is no entry stands before its first one
abbrev pub HostsBegin : Type 0
HostsBegin =
    (b : BusSetting) (host : ℕ) (calls : List Call) (journal : List Entry) → AreOfHosts b (calls_of host calls) → AreNew (calls_of host calls) journal →
    StandsAt b (record { host = host; calls = calls; replies = []; current = None }) journal

-- an entry of a call that isn't the host's leaves it where it stands
abbrev pub OthersLeaveHosts : Type 0
OthersLeaveHosts =
    (b : BusSetting) (run : HostCalls) (n : ℕ) (request : Request) (journal now : List Entry) → IsSetting b.array → Grows b.array now → HasGrownBy b n request journal now →
    AllByRecursion (λ (call : ℕ × Action). call.0 ≢ n) (calls_of run.host run.calls) → StandsAt b run journal → StandsAt b run now

-- a call that was told its reply has all entries that it asks for
abbrev pub ToldCallsAreServed : Type 0
ToldCallsAreServed =
    (script : Script) (b : BusSetting) (whole journal : List Entry) (n : ℕ) (action : Action) (reply : Reply) → b.array ≡ setting_of script → most_of b ≡ most_blocks script →
    WasTold b n action (request_of script.geometry action) reply journal → IsServed script whole (request_of script.geometry action) (steps_of n journal)

-- and the reply is what a report says of it
abbrev pub ToldCallsAreReported : Type 0
ToldCallsAreReported =
    (b : BusSetting) (journal : List Entry) (n : ℕ) (call : Call) (reply : Reply) → WasTold b n call.action (request_of b.array.geometry call.action) reply journal →
    reply_line b.array.geometry journal n call ≡ told_line n call reply
