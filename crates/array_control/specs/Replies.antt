-- What each call is told, by the bytes that it read, why it failed, and how many of its pieces were done and left.
use Rattle.std.specs.Prelude.{◌≡◌, ◌<◌, ℕ, List, ◌∷◌, Option, Some, None, MatchOption, codes, if◌then◌else◌}
use Rattle.std.specs.Fmt.{decimal}
use Rattle.std.proofs.Common.{subst, lit<}
use Rattle.sense_data.specs.declared.senses.Pointer.{Pointer}
use Rattle.sense_data.specs.declared.senses.Sense.{Sense}
use Rattle.array_journal.specs.declared.event.Why.{Why}
use Rattle.array_journal.specs.declared.event.Why.TheVariants.{Illegal, Medium, NotReady, Unfitted, Present, Listed, Second, Clean, Absent, NotLost}
use Rattle.text_fields.specs.Spelling.{counted}
use Rattle.answer_text.specs.Answers.{sense_check, check_text, good_text}
use Rattle.host_scripts.specs.declared.script.Action.{Action}
use Rattle.host_scripts.specs.declared.script.Action.TheVariants as actions
use Rattle.host_requests.specs.Requests.{is_write}
use Rattle.stripe_check.specs.declared.command_summary.Tally.{Tally}
use Rattle.stripe_check.specs.declared.failure.Failure.{Failure}
use Rattle.stripe_check.specs.declared.failure.Failure.TheVariants as failures
use Rattle.unit_plans.specs.declared.doings.Reply.{Reply}
use Rattle.unit_plans.specs.declared.doings.Reply.TheVariants.{Good, Check, Done, Refused}

-- a sense key and an additional sense code, and nothing else
abbrev pub plain_sense : (key : ℕ) → key < 16 → ℕ → Sense
plain_sense key in_range asc = record {
  key = key;
  information = None;
  specific = 0;
  asc = asc;
  ascq = 0;
  fru = 0;
  pointer = None;
  in_range = in_range;
  illegal = λ p e. subst (λ (o : Option Pointer). MatchOption o (Unit {0}) (λ x. key ≡ 5)) e tt;
}

-- NOT READY, for two missing units
abbrev pub not_ready : Sense
not_ready = plain_sense 2 (lit< tt) 4

-- MEDIUM ERROR, for a missing unit of a listed stripe: an unrecovered read error, or a write error
abbrev pub read_failure : Sense
read_failure = plain_sense 3 (lit< tt) 0x11

abbrev pub write_failure : Sense
write_failure = plain_sense 3 (lit< tt) 0x0c

-- ABORTED COMMAND, for a delta that was lost
abbrev pub lost_delta : Sense
lost_delta = plain_sense 11 (lit< tt) 8

-- the sense for a refusal, where a missing unit of a listed stripe has its own; the reasons below NOT READY refuse no host
abbrev pub refusal_sense : Sense → Why → Sense
refusal_sense medium (Illegal sense) = sense
refusal_sense medium Medium = medium
refusal_sense medium NotReady = not_ready
refusal_sense medium Unfitted = not_ready
refusal_sense medium Present = not_ready
refusal_sense medium Listed = not_ready
refusal_sense medium Second = not_ready
refusal_sense medium Clean = not_ready
refusal_sense medium Absent = not_ready
refusal_sense medium NotLost = not_ready

abbrev pub failure_sense : Sense → Failure → Sense
failure_sense medium (failures.Refused why) = refusal_sense medium why
failure_sense medium failures.Spoilt = lost_delta

-- what a host is told
abbrev pub host_reply : Sense → List ℕ → Option Failure → Reply
host_reply medium bytes None = Good bytes
host_reply medium bytes (Some failure) = Check (failure_sense medium failure)

abbrev pub cdb_failure : List ℕ → Sense
cdb_failure cdb = if is_write cdb then write_failure else read_failure

-- what the operator is told of a new disk
abbrev pub replace_reply : Option Failure → Reply
replace_reply None = Done 0 0
replace_reply (Some failure) = Refused

abbrev pub reply_of : Action → List ℕ → Option Failure → Tally → Reply
reply_of (actions.Read lba count) bytes failure tally = host_reply read_failure bytes failure
reply_of (actions.Write lba sent) bytes failure tally = host_reply write_failure bytes failure
reply_of (actions.Fill lba count byte) bytes failure tally = host_reply write_failure bytes failure
reply_of (actions.Raw cdb sent) bytes failure tally = host_reply (cdb_failure cdb) bytes failure
reply_of (actions.Lose target) bytes failure tally = Done 0 0
reply_of (actions.Reset target) bytes failure tally = Done 0 0
reply_of (actions.DropNext target) bytes failure tally = Done 0 0
reply_of (actions.Replace target) bytes failure tally = replace_reply failure
reply_of (actions.Rebuild target) bytes failure tally = Done tally.done tally.left
reply_of actions.Resync bytes failure tally = Done tally.done tally.left

-- how a report tells a call that it was done: of a rebuild and a resync with its numbers
abbrev pub done_text : Action → ℕ → ℕ → List ℕ
done_text (actions.Rebuild target) made left = counted (codes "done") made (32 ∷ decimal left)
done_text actions.Resync made left = counted (codes "done") made (32 ∷ decimal left)
done_text _ made left = codes "done"

-- how a report tells a reply
abbrev pub told_text : Action → Reply → List ℕ
told_text action (Good bytes) = good_text bytes
told_text action (Check sense) = check_text (sense_check sense)
told_text action (Done made left) = done_text action made left
told_text action Refused = codes "refused"
