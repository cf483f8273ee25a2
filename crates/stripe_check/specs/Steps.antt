-- To which call an entry belongs, and the steps of a call: those of its entries that tell how far it is. A list called
-- past has the newest entry first.
use Rattle.std.specs.Prelude.{ℕ, ◌==◌, if◌then◌else◌, Bool, true, false, List, [], ◌∷◌, ◌++◌, Option, Some, None, option_map}
use Rattle.array_journal.specs.declared.at.At.{At}
use Rattle.array_journal.specs.declared.entry.Entry.{Entry}
use Rattle.array_journal.specs.declared.event.Event.{Event}
use Rattle.array_journal.specs.declared.event.Event.TheVariants.{Fetch, Put, Diff, Take, Fold, Hold, Shut, Gone, Wiped, Fresh, Open, Close, Spoil, Note, Swap, Refuse}
use Rattle.array_journal.specs.declared.event.What.{What}
use Rattle.array_journal.specs.declared.event.Why.{Why}
use Rattle.array_journal.specs.declared.task.Task.{Task}
use Rattle.array_journal.specs.Commands.{task_of}
use Rattle.array_journal.specs.Entries.{name_of}

-- the call for which a command was opened
abbrev pub call_of_command : ℕ → List Entry → Option ℕ
call_of_command command past = option_map (λ (task : Task). task.call) (task_of command past)

-- The call that an event belongs to, after the entries before it: the one that it carries, or else that of its command.
-- A note belongs to none.
abbrev pub call_of : Event → List Entry → Option ℕ
call_of (Fetch command opened cdb row bytes) past = call_of_command command past
call_of (Put command opened cdb row bytes names) past = call_of_command command past
call_of (Diff command opened cdb row bytes sent dropped back) past = call_of_command command past
call_of (Take command opened cdb row bytes) past = call_of_command command past
call_of (Fold command opened cdb row bytes names) past = call_of_command command past
call_of (Hold command opened cdb row bytes kept names back) past = call_of_command command past
call_of (Shut command opened acted lost) past = call_of_command command past
call_of (Gone life call commands) past = Some call
call_of (Wiped what call commands) past = Some call
call_of (Fresh call swap) past = Some call
call_of (Open command task) past = Some task.call
call_of (Close command done names cause bytes) past = call_of_command command past
call_of (Spoil command diff loss shut) past = call_of_command command past
call_of (Note slot lost) past = None
call_of (Swap slot call) past = Some call
call_of (Refuse call piece why) past = Some call

-- how a command ends
pub data CommandEnding : Type 0 where
  Done : CommandEnding
  GivenUp : CommandEnding
  Spoilt : CommandEnding

pub data Step : Type 0 where
  -- a command is opened for a piece
  Begins : (piece command : ℕ) → Step
  -- a command is closed or spoilt
  Ends : (command : ℕ) (ending : CommandEnding) → Step
  -- a piece is refused
  Refused : (piece : ℕ) (why : Why) → Step
  -- a disk is lost in one of its lives, or something is wiped, at a lock
  Lost : (lock life : ℕ) → Step
  WipedAt : (lock : ℕ) (what : What) → Step
  -- a slot's disk is swapped by the entry of a name; a fresh disk comes at a lock for the swap of a name
  Swapped : (slot : ℕ) (name : At) → Step
  Renewed : (lock : ℕ) (swap : At) → Step

-- the step that an entry is; acts, shuts and notes are none
abbrev pub step_by : Event → ℕ → At → Option Step
step_by (Fetch command opened cdb row bytes) lock name = None
step_by (Put command opened cdb row bytes names) lock name = None
step_by (Diff command opened cdb row bytes sent dropped back) lock name = None
step_by (Take command opened cdb row bytes) lock name = None
step_by (Fold command opened cdb row bytes names) lock name = None
step_by (Hold command opened cdb row bytes kept names back) lock name = None
step_by (Shut command opened acted lost) lock name = None
step_by (Gone life call commands) lock name = Some (Lost lock life)
step_by (Wiped what call commands) lock name = Some (WipedAt lock what)
step_by (Fresh call swap) lock name = Some (Renewed lock swap)
step_by (Open command task) lock name = Some (Begins task.piece command)
step_by (Close command true names cause bytes) lock name = Some (Ends command Done)
step_by (Close command false names cause bytes) lock name = Some (Ends command GivenUp)
step_by (Spoil command diff loss shut) lock name = Some (Ends command Spoilt)
step_by (Note slot lost) lock name = None
step_by (Swap slot call) lock name = Some (Swapped slot name)
step_by (Refuse call piece why) lock name = Some (Refused piece why)

abbrev pub step_list : Option Step → List Step
step_list None = []
step_list (Some step) = step ∷ []

abbrev pub is_call : ℕ → Option ℕ → Bool
is_call n None = false
is_call n (Some call) = call == n

-- the steps of an entry for the call of a number, after the entries before it
abbrev pub steps_by : ℕ → Entry → List Entry → List Step
steps_by n e past = if is_call n (call_of e.event past) then step_list (step_by e.event e.lock (name_of e)) else []

-- the steps of a call in the order of the journal
abbrev pub steps_of : ℕ → List Entry → List Step
steps_of n [] = []
steps_of n (e ∷ past) = steps_of n past ++ steps_by n e past
