-- What each call of a script is answered, as a journal tells it. A list called past has the newest entry first.
use Rattle.std.specs.Prelude.{ℕ, ◌+◌, ◌==◌, if◌then◌else◌, List, [], ◌∷◌, ◌++◌, Option, Some, None, codes}
use Rattle.std.specs.Fmt.{decimal}
use Rattle.stripe_layout.specs.declared.geometry.Geometry.{Geometry}
use Rattle.array_journal.specs.declared.entry.Entry.{Entry}
use Rattle.array_journal.specs.declared.event.Event.{Event}
use Rattle.array_journal.specs.declared.event.Event.TheVariants.{Spoil, Refuse}
use Rattle.array_journal.specs.declared.event.Why.{Why}
use Rattle.array_journal.specs.declared.event.Why.TheVariants.{Illegal, Medium, NotReady, Unfitted, Present, Listed, Second, Clean, Absent, NotLost}
use Rattle.array_journal.specs.declared.task.Task.{Task}
use Rattle.array_journal.specs.Commands.{task_of}
use Rattle.host_requests.specs.Requests.{is_write}
use Rattle.array_journal.specs.Host.{HostItem, ReadItem, WroteItem, RefusedItem, host}
use Rattle.host_scripts.specs.declared.script.Action.{Action}
use Rattle.host_scripts.specs.declared.script.Action.TheVariants.{Read, Write, Fill, Raw, Lose, Reset, DropNext, Replace, Rebuild, Resync}
use Rattle.host_scripts.specs.declared.script.Call.{Call}
use Rattle.text_fields.specs.Spelling.{line, counted}
use Rattle.host_scripts.specs.Scripts.{letter}
use Rattle.answer_text.specs.declared.check.Check.{Check}
use Rattle.answer_text.specs.Answers.{plain_check, sense_check, check_text, good_text}
use Rattle.stripe_check.specs.declared.command_summary.Tally.{Tally}
use Rattle.stripe_check.specs.declared.failure.Failure.{Failure}
use Rattle.stripe_check.specs.declared.failure.Failure.TheVariants.{Refused, Spoilt}
use Rattle.stripe_check.specs.Tallies.{is_of_call, tally_of}

-- the bytes that an item tells a call
abbrev pub told_bytes : ℕ → HostItem → List ℕ
told_bytes n (ReadItem call piece lba bytes) = if call == n then bytes else []
told_bytes n (WroteItem call piece lba bytes) = []
told_bytes n (RefusedItem call piece why) = []

-- all the bytes that a call was told, in the order of the journal
abbrev pub bytes_told : ℕ → List HostItem → List ℕ
bytes_told n [] = []
bytes_told n (item ∷ past) = bytes_told n past ++ told_bytes n item

abbrev pub bytes_read : Geometry → ℕ → List Entry → List ℕ
bytes_read g n past = bytes_told n (host g past)

-- why an event makes a call fail: it refuses a piece of it, or ends a command of it with the delta lost
abbrev pub failure_by : ℕ → Event → Option Task → Option Failure
failure_by n (Refuse call piece why) task = if call == n then Some (Refused why) else None
failure_by n (Spoil command diff loss shut) task = if is_of_call n task then Some Spoilt else None
failure_by n _ task = None

-- the command that an event ends with its delta lost
abbrev pub spoilt_command : Event → Option ℕ
spoilt_command (Spoil command diff loss shut) = Some command
spoilt_command _ = None

abbrev pub spoilt_task : Option ℕ → List Entry → Option Task
spoilt_task None past = None
spoilt_task (Some c) past = task_of c past

abbrev pub first_failure : Option Failure → Option Failure → Option Failure
first_failure (Some failure) older = Some failure
first_failure None older = older

-- why a call failed, by its newest such event
abbrev pub failure_of : ℕ → List Entry → Option Failure
failure_of n [] = None
failure_of n (e ∷ past) = first_failure (failure_by n e.event (spoilt_task (spoilt_command e.event) past)) (failure_of n past)

-- The check for a refusal, where a missing unit of a listed stripe has its own. NOT READY comes for two missing
-- units; the reasons below it refuse nothing that reads or writes.
abbrev pub refusal_check : Check → Why → Check
refusal_check medium (Illegal sense) = sense_check sense
refusal_check medium Medium = medium
refusal_check medium NotReady = plain_check 2 4 0
refusal_check medium Unfitted = plain_check 2 4 0
refusal_check medium Present = plain_check 2 4 0
refusal_check medium Listed = plain_check 2 4 0
refusal_check medium Second = plain_check 2 4 0
refusal_check medium Clean = plain_check 2 4 0
refusal_check medium Absent = plain_check 2 4 0
refusal_check medium NotLost = plain_check 2 4 0

-- ABORTED COMMAND, logical unit communication failure, where the delta was lost
abbrev pub failure_check : Check → Failure → Check
failure_check medium (Refused why) = refusal_check medium why
failure_check medium Spoilt = plain_check 11 8 0

-- the answer to a call that reads or writes
abbrev pub host_text : Check → List ℕ → Option Failure → List ℕ
host_text medium bytes None = good_text bytes
host_text medium bytes (Some failure) = check_text (failure_check medium failure)

-- a missing unit of a listed stripe is an unrecovered read error to a reader, and a write error to a writer
abbrev pub read_error : Check
read_error = plain_check 3 0x11 0

abbrev pub write_error : Check
write_error = plain_check 3 0x0c 0

-- where a CDB writes, a write error
abbrev pub cdb_error : List ℕ → Check
cdb_error cdb = if is_write cdb then write_error else read_error

-- a disk was replaced, unless it was refused
abbrev pub replaced_text : Option Failure → List ℕ
replaced_text None = codes "done"
replaced_text (Some failure) = codes "refused"

-- how many stripes were made anew, and how many were left as they are
abbrev pub tally_text : Tally → List ℕ
tally_text t = counted (codes "done") t.done (32 ∷ decimal t.left)

-- the answer to each kind of call, by the bytes that it was told, why it failed, and the tally of its pieces
abbrev pub reply_text : Action → List ℕ → Option Failure → Tally → List ℕ
reply_text (Read lba count) bytes failure tally = host_text read_error bytes failure
reply_text (Write lba sent) bytes failure tally = host_text write_error bytes failure
reply_text (Fill lba count byte) bytes failure tally = host_text write_error bytes failure
reply_text (Raw cdb sent) bytes failure tally = host_text (cdb_error cdb) bytes failure
reply_text (Lose target) bytes failure tally = codes "done"
reply_text (Reset target) bytes failure tally = codes "done"
reply_text (DropNext target) bytes failure tally = codes "done"
reply_text (Replace target) bytes failure tally = replaced_text failure
reply_text (Rebuild target) bytes failure tally = tally_text tally
reply_text Resync bytes failure tally = tally_text tally

-- the line of the call with a number, by what is known of it
abbrev pub answer_line : ℕ → Call → List ℕ → Option Failure → Tally → List ℕ
answer_line n call bytes failure tally = line (decimal n ++ (32 ∷ letter call.host ∷ 32 ∷ reply_text call.action bytes failure tally))

-- the line of the call with a number, as a journal tells it
abbrev pub reply_line : Geometry → List Entry → ℕ → Call → List ℕ
reply_line g past n call = answer_line n call (bytes_read g n past) (failure_of n past) (tally_of n past)

-- the lines of calls, numbered from n
abbrev pub reply_lines : Geometry → List Entry → ℕ → List Call → List ℕ
reply_lines g past n [] = []
reply_lines g past n (call ∷ calls) = reply_line g past n call ++ reply_lines g past (n + 1) calls
