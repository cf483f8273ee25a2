-- How far a call of a host has come in a list of entries, the newest first: all those of an array, or those that one caller has
-- made. The call has a number, and is cut into so many pieces.
use Rattle.std.specs.Prelude.{◌≡◌, ◌<◌, ◌≤◌, ◌==◌, ◌++◌, ℕ, Bool, true, false, List, [], ◌∷◌, Option, Some, None, if◌then◌else◌}
use Rattle.stripe_layout.specs.declared.geometry.Geometry.{Geometry}
use Rattle.sense_data.specs.declared.senses.Sense.{Sense}
use Rattle.array_journal.specs.declared.entry.Entry.{Entry}
use Rattle.array_journal.specs.declared.event.Event.{Event}
use Rattle.array_journal.specs.declared.event.Event.TheVariants.{Fetch, Put, Diff, Take, Fold, Hold, Shut, Gone, Wiped, Fresh, Open, Close, Spoil, Note, Swap, Refuse}
use Rattle.array_journal.specs.declared.event.Why.TheVariants.{Illegal}
use Rattle.array_journal.specs.declared.task.Task.{Task}
use Rattle.array_journal.specs.Commands.{opens_command, task_of}
use Rattle.array_journal.specs.Host.{is_read, is_degraded_read}
use Rattle.stripe_check.specs.declared.failure.Failure.{Failure}
use Rattle.stripe_check.specs.declared.failure.Failure.TheVariants as failures
use Rattle.stripe_check.specs.Asked.{goes_through}
use Rattle.stripe_check.specs.Replies.{bytes_read, failure_of}
use Rattle.stripe_check.specs.Steps.{Step, Begins, Refused, call_of, is_call, steps_of}

-- The pieces before this one are done: whatever steps the call may make yet, they are judged from this piece on. It has been told
-- these bytes, and nothing has failed.
pub record HasCome (g : Geometry) (n count piece : ℕ) (bytes : List ℕ) (past : List Entry) : Type 0 where
  pub in_count : piece ≤ count
  pub steps : (rest : List Step) → goes_through true count 0 0 (steps_of n past ++ rest) ≡ goes_through true count piece 0 rest
  pub told : bytes_read g n past ≡ bytes
  pub unfailed : failure_of n past ≡ None

-- Beyond that, a command with this task is open for the piece, and its entries have told the call so many bytes more.
pub record IsServing (g : Geometry) (n count piece : ℕ) (bytes : List ℕ) (c : ℕ) (task : Task) (more : List ℕ) (past : List Entry) : Type 0 where
  pub in_count : piece < count
  pub its_task : task_of c past ≡ Some task
  pub of_call : task.call ≡ n
  pub steps : (rest : List Step) → goes_through true count 0 0 (steps_of n past ++ rest) ≡ goes_through true count piece 0 (Begins piece c ∷ rest)
  pub told : bytes_read g n past ≡ bytes ++ more
  pub unfailed : failure_of n past ≡ None

-- The call has come to its end: its steps go through its pieces, up to and with the first that failed. It was told these bytes,
-- and failed for this reason, if it did.
pub record HasEnded (g : Geometry) (n count : ℕ) (bytes : List ℕ) (failure : Option Failure) (past : List Entry) : Type 0 where
  pub steps : goes_through true count 0 0 (steps_of n past) ≡ true
  pub told : bytes_read g n past ≡ bytes
  pub failed : failure_of n past ≡ failure

-- the call was refused before it had any piece, with this sense
pub record IsRefused (g : Geometry) (n : ℕ) (sense : Sense) (past : List Entry) : Type 0 where
  pub steps : steps_of n past ≡ Refused 0 (Illegal sense) ∷ []
  pub told : bytes_read g n past ≡ []
  pub failed : failure_of n past ≡ Some (failures.Refused (Illegal sense))

-- ---- entries of an open command

-- the event is an act or a shut of the command
abbrev pub is_doing : ℕ → Event → Bool
is_doing c (Fetch command opened cdb row bytes) = command == c
is_doing c (Put command opened cdb row bytes names) = command == c
is_doing c (Diff command opened cdb row bytes sent dropped back) = command == c
is_doing c (Take command opened cdb row bytes) = command == c
is_doing c (Fold command opened cdb row bytes names) = command == c
is_doing c (Hold command opened cdb row bytes kept names back) = command == c
is_doing c (Shut command opened acted lost) = command == c
is_doing c (Gone life call commands) = false
is_doing c (Wiped what call commands) = false
is_doing c (Fresh call swap) = false
is_doing c (Open command task) = false
is_doing c (Close command done names cause bytes) = false
is_doing c (Spoil command diff loss shut) = false
is_doing c (Note slot lost) = false
is_doing c (Swap slot call) = false
is_doing c (Refuse call piece why) = false

-- the bytes that an act tells the call of its command: a read's fetch tells what it has read
abbrev pub bytes_by_act : Task → Event → List ℕ
bytes_by_act task (Fetch command opened cdb row bytes) = if is_read task.kind then bytes else []
bytes_by_act task _ = []

-- those of several acts, the newest first
abbrev pub AreDoings : ℕ → List Entry → Type 0
AreDoings c [] = Unit {0}
AreDoings c (e ∷ acts) = (is_doing c e.event ≡ true) × AreDoings c acts

abbrev pub bytes_by_acts : Task → List Entry → List ℕ
bytes_by_acts task [] = []
bytes_by_acts task (e ∷ acts) = bytes_by_acts task acts ++ bytes_by_act task e.event

-- those that its close as done tells: of a degraded read, the blocks that were made
abbrev pub bytes_by_close : Task → List ℕ → List ℕ
bytes_by_close task bytes = if is_degraded_read task.kind then bytes else []

-- ---- entries of other calls

-- an entry is of another call, or of none, after the entries before it
abbrev pub IsOfOther : ℕ → Entry → List Entry → Type 0
IsOfOther n e past = is_call n (call_of e.event past) ≡ false

abbrev pub AreOfOthers : ℕ → List Entry → List Entry → Type 0
AreOfOthers n [] past = Unit {0}
AreOfOthers n (e ∷ others) past = IsOfOther n e (others ++ past) × AreOfOthers n others past

-- no entry of the book opens a command of this number
abbrev pub OpenNo : ℕ → List Entry → Type 0
OpenNo c [] = Unit {0}
OpenNo c (e ∷ others) = (e.lock ≡ 0 → opens_command c e.event ≡ false) × OpenNo c others
