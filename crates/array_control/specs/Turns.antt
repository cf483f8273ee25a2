-- Turns of hosts: what a host's calls were told, how far it is in the next one, and what its next act is. A journal has the newest
-- entry first here: it is all entries of a bus that is alone.
use Rattle.std.specs.Prelude.{◌≡◌, ◌≢◌, ◌<◌, ◌==◌, ◌++◌, ℕ, Bool, true, false, if◌then◌else◌, List, [], ◌∷◌, take, drop, length, Option, Some, None}
use Rattle.std.specs.List.{AllByRecursion}
use Rattle.array_journal.specs.declared.entry.Entry.{Entry}
use Rattle.array_journal.specs.declared.event.Why.TheVariants.{Illegal}
use Rattle.array_journal.specs.Calls.{IsNewCall}
use Rattle.host_requests.specs.Forms.{transfer_as, sense_of}
use Rattle.host_requests.specs.declared.faults.RequestFault.{RequestFault}
use Rattle.host_requests.specs.Requests.{Request, Fails, Moves, Transfer, request_of}
use Rattle.host_scripts.specs.declared.script.Action.{Action}
use Rattle.sense_data.specs.declared.senses.Sense.{Sense}
use Rattle.stripe_check.specs.declared.failure.Failure.{Failure}
use Rattle.stripe_check.specs.declared.failure.Failure.TheVariants as failures
use Rattle.stripe_check.specs.Tallies.{untold}
use Rattle.unit_plans.specs.declared.doings.Reply.{Reply}
use Rattle.unit_plans.specs.declared.doings.Reply.TheVariants.{Good}
use Rattle.unit_plans.specs.Buses.{BusSetting}
use Rattle.array_control.specs.declared.call_run.CallRun.{CallRun}
use Rattle.array_control.specs.declared.serving.Advanced.{Advanced}
use Rattle.array_control.specs.declared.serving.Advanced.TheVariants as steps
use Rattle.array_control.specs.declared.turns.Turned.{Turned}
use Rattle.array_control.specs.declared.turns.Turned.TheVariants.{Made, Blocked, Finished}
use Rattle.array_control.specs.declared.turns.Work.{Work}
use Rattle.array_control.specs.declared.turns.Work.TheVariants as works
use Rattle.array_control.specs.Arrays.{HasGrownBy, HasToWaitFor, IsEntryFor, IsHeldUpBy, IsUnderWay}
use Rattle.array_control.specs.Begins.{IsOfHost, pieces_by}
use Rattle.array_control.specs.HostCalls.{HostCalls, calls_of, left_of}
use Rattle.array_control.specs.Progress.{HasEnded, IsRefused}
use Rattle.array_control.specs.Replies.{reply_of}

-- what a call asks
abbrev pub request_in : BusSetting → ℕ × Action → Request
request_in b call = request_of b.array.geometry call.1

-- ---- what calls were told

-- Its pieces went to their end, or up to one that failed. The reply tells what was read, or why it failed.
pub record WasServed (b : BusSetting) (n : ℕ) (action : Action) (t : Transfer) (reply : Reply) (journal : List Entry) : Type 0 where
  pub bytes : List ℕ
  pub failure : Option Failure
  pub ended : HasEnded b.array.geometry n (length (pieces_by b t)) bytes failure journal
  pub tells : reply ≡ reply_of action bytes failure untold

-- It was refused for the test that it fails.
pub record WasRefused (b : BusSetting) (n : ℕ) (action : Action) (reply : Reply) (journal : List Entry) (sense : Sense) : Type 0 where
  pub refused : IsRefused b.array.geometry n sense journal
  pub tells : reply ≡ reply_of action [] (Some (failures.Refused (Illegal sense))) untold

-- the reply to a call of a host is the one that its entries give
abbrev pub WasTold : BusSetting → ℕ → Action → Request → Reply → List Entry → Type 0
WasTold b n action (Moves t) reply journal = WasServed b n action t reply journal
WasTold b n action (Fails sense) reply journal = WasRefused b n action reply journal sense
WasTold b n action _ reply journal = ⊥

-- so it is of all these calls, one by one
abbrev pub WereTold : BusSetting → List (ℕ × Action) → List Reply → List Entry → Type 0
WereTold b [] [] journal = Unit {0}
WereTold b (call ∷ calls) (reply ∷ replies) journal = WasTold b call.0 call.1 (request_in b call) reply journal × WereTold b calls replies journal
WereTold b _ _ journal = ⊥

-- ---- the calls that are left

-- these are calls of a host, and no entry is of one of them
abbrev pub AreNew : List (ℕ × Action) → List Entry → Type 0
AreNew calls journal = AllByRecursion (λ (call : ℕ × Action). IsNewCall call.0 journal) calls

abbrev pub AreOfHosts : BusSetting → List (ℕ × Action) → Type 0
AreOfHosts b calls = AllByRecursion (λ (call : ℕ × Action). IsOfHost (request_in b call)) calls

-- the next call was taken up: its blocks are moved, and it has pieces left
pub record IsTaken (b : BusSetting) (next : ℕ × Action) (call : CallRun) (journal : List Entry) : Type 0 where
  pub number : call.number ≡ next.0
  pub asks : request_in b next ≡ Moves (transfer_as call.transfer)
  pub way : IsUnderWay b call journal
  pub more : call.piece < call.count

abbrev pub IsCurrent : BusSetting → List (ℕ × Action) → Option CallRun → List Entry → Type 0
IsCurrent b left None journal = Unit {0}
IsCurrent b [] (Some call) journal = ⊥
IsCurrent b (next ∷ left) (Some call) journal = IsTaken b next call journal

-- those that weren't taken up
abbrev pub not_taken : Option CallRun → List (ℕ × Action) → List (ℕ × Action)
not_taken None left = left
not_taken (Some call) left = drop 1 left

-- A host stands so in a journal: its first calls were told what their entries give, one call may be on its way, and of the others
-- there is no entry.
pub record StandsAt (b : BusSetting) (run : HostCalls) (journal : List Entry) : Type 0 where
  pub told : WereTold b (take (length run.replies) (calls_of run.host run.calls)) run.replies journal
  pub current : IsCurrent b (left_of run) run.current journal
  pub new : AreNew (not_taken run.current (left_of run)) journal
  pub hosts : AreOfHosts b (left_of run)

-- ---- what is next

-- a call of no blocks
abbrev pub is_empty : BusSetting → Request → Bool
is_empty b (Moves t) = length (pieces_by b t) == 0
is_empty b _ = false

-- the calls from the first on that isn't of no blocks
abbrev pub upcoming : BusSetting → List (ℕ × Action) → List (ℕ × Action)
upcoming b [] = []
upcoming b (call ∷ calls) = if is_empty b (request_in b call) then upcoming b calls else call ∷ calls

-- the first of these calls is to begin its first piece, which has to wait for this command
pub record FirstIsHeldUp (b : BusSetting) (calls : List (ℕ × Action)) (by : ℕ) (journal : List Entry) : Type 0 where
  pub call : ℕ × Action
  pub rest : List (ℕ × Action)
  pub first : calls ≡ call ∷ rest
  pub transfer : Transfer
  pub moves : request_in b call ≡ Moves transfer
  pub waits : HasToWaitFor b call.0 transfer 0 by journal

abbrev pub IsNextHeldUp : BusSetting → List (ℕ × Action) → Option CallRun → ℕ → List Entry → Type 0
IsNextHeldUp b left (Some call) by journal = IsHeldUpBy b call by journal
IsNextHeldUp b left None by journal = FirstIsHeldUp b (upcoming b left) by journal

-- the host's next act would have to wait for this command
abbrev pub IsHeldUp : BusSetting → HostCalls → ℕ → List Entry → Type 0
IsHeldUp b run by journal = IsNextHeldUp b (left_of run) run.current by journal

-- the host has a call with something to do, and its next act wouldn't have to wait
pub record IsRunnable (b : BusSetting) (run : HostCalls) (journal : List Entry) : Type 0 where
  pub work : upcoming b (left_of run) ≢ []
  pub free : (by : ℕ) → IsHeldUp b run by journal → ⊥

pub record Tells (answer : Bool) (fact : Type 0) : Type 0 where
  pub is : answer ≡ true → fact
  pub so : fact → answer ≡ true

-- ---- what a turn comes to

-- one entry was made, for the first of these calls
pub record HasMadeFor (b : BusSetting) (calls : List (ℕ × Action)) (journal now : List Entry) : Type 0 where
  pub call : ℕ × Action
  pub rest : List (ℕ × Action)
  pub first : calls ≡ call ∷ rest
  pub grown : HasGrownBy b call.0 (request_in b call) journal now

-- a turn comes to what the step of its call has come to
abbrev pub turned_by : Advanced → Turned
turned_by steps.Made = Made
turned_by (steps.Blocked by) = Blocked by

-- Either that; or nothing was done, and the next act has to wait; or nothing was done, and no call is left.
abbrev pub HasTurned : BusSetting → HostCalls → Turned → HostCalls → List Entry → List Entry → Type 0
HasTurned b old Made new journal now = HasMadeFor b (upcoming b (left_of old)) journal now
HasTurned b old (Blocked by) new journal now = (now ≡ journal) × IsHeldUp b old by journal
HasTurned b old Finished new journal now = (now ≡ journal) × (left_of new ≡ [])

-- the same host and calls, and more of them were told something
pub record IsSameHost (old new : HostCalls) : Type 0 where
  pub host : new.host ≡ old.host
  pub calls : new.calls ≡ old.calls
  pub more : List Reply
  pub replies : new.replies ≡ old.replies ++ more

-- ---- a whole call

-- each of these entries is of this call, after those before it
abbrev pub AreEntriesFor : BusSetting → ℕ → Request → List Entry → List Entry → Type 0
AreEntriesFor b n request [] journal = Unit {0}
AreEntriesFor b n request (e ∷ more) journal = IsEntryFor b n request e (more ++ journal) × AreEntriesFor b n request more journal

-- entries of the call came, and no other
pub record MadeAll (b : BusSetting) (n : ℕ) (request : Request) (journal now : List Entry) : Type 0 where
  pub more : List Entry
  pub newest : now ≡ more ++ journal
  pub are_for : AreEntriesFor b n request more journal

-- all its pieces were done, and the reply has what was read
pub record HasReadAll (b : BusSetting) (n : ℕ) (t : Transfer) (reply : Reply) (journal : List Entry) : Type 0 where
  pub bytes : List ℕ
  pub ended : HasEnded b.array.geometry n (length (pieces_by b t)) bytes None journal
  pub tells : reply ≡ Good bytes

-- ---- within a turn

-- a call fails a test
pub record IsFailing (b : BusSetting) (next : ℕ × Action) (number : ℕ) (fault : RequestFault) : Type 0 where
  pub number_is : number ≡ next.0
  pub fails : request_in b next ≡ Fails (sense_of fault)

-- a call of some blocks, before its first piece
pub record IsNewlyTaken (b : BusSetting) (next : ℕ × Action) (call : CallRun) : Type 0 where
  pub taken : (journal : List Entry) → IsNewCall next.0 journal → IsTaken b next call journal
  pub piece : call.piece ≡ 0
  pub idle : call.doing ≡ None

-- A call that was looked at: it is of no blocks, or this is to be done for it, and nothing was done yet.
abbrev pub IsFirstWork : BusSetting → ℕ × Action → Option Work → Type 0
IsFirstWork b next None = is_empty b (request_in b next) ≡ true
IsFirstWork b next (Some (works.Moves call)) = IsNewlyTaken b next call
IsFirstWork b next (Some (works.Fails number fault)) = IsFailing b next number fault

-- the first of these calls has this to do, and there is no entry of the others; or there is none
abbrev pub IsNextWork : BusSetting → List (ℕ × Action) → Option Work → List Entry → Type 0
IsNextWork b [] None journal = Unit {0}
IsNextWork b (next ∷ left) (Some (works.Moves call)) journal = IsTaken b next call journal × AreNew left journal
IsNextWork b (next ∷ left) (Some (works.Fails number fault)) journal = IsFailing b next number fault × AreNew (next ∷ left) journal
IsNextWork b _ _ journal = ⊥

-- the work is to begin a piece, which has to wait for this command
abbrev pub HoldsUp : BusSetting → Option Work → ℕ → List Entry → Type 0
HoldsUp b (Some (works.Moves call)) by journal = IsHeldUpBy b call by journal
HoldsUp b _ by journal = ⊥

-- the first of these calls has this to do, which wasn't begun; or there is none
abbrev pub IsFirstOf : BusSetting → List (ℕ × Action) → Option Work → Type 0
IsFirstOf b [] None = Unit {0}
IsFirstOf b (next ∷ left) (Some work) = IsFirstWork b next (Some work)
IsFirstOf b _ _ = ⊥

-- one entry was made for the call, or its next act has to wait and nothing was done
abbrev pub HasServed : BusSetting → List (ℕ × Action) → CallRun → Turned → List Entry → List Entry → Type 0
HasServed b left call Made journal now = HasMadeFor b left journal now
HasServed b left call (Blocked by) journal now = (now ≡ journal) × IsHeldUpBy b call by journal
HasServed b left call Finished journal now = ⊥

-- A host is at this work: those calls before it were told what their entries give.
pub record IsAtWork (b : BusSetting) (run : HostCalls) (todo : Option Work) (journal : List Entry) : Type 0 where
  pub idle : run.current ≡ None
  pub told : WereTold b (take (length run.replies) (calls_of run.host run.calls)) run.replies journal
  pub work : IsNextWork b (left_of run) todo journal
  pub hosts : AreOfHosts b (left_of run)

-- The host has come to its next work, or to the end of its calls; those before it, of no blocks, were told that they are good.
pub record HasComeTo (b : BusSetting) (old new : HostCalls) (todo : Option Work) (journal : List Entry) : Type 0 where
  pub same : IsSameHost old new
  pub left : left_of new ≡ upcoming b (left_of old)
  pub at_work : IsAtWork b new todo journal
  pub held : (by : ℕ) → HoldsUp b todo by journal → IsHeldUp b old by journal
