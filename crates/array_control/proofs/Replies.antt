-- Replies and the lines of a report.
use Rattle.std.specs.Prelude.{◌≡◌, ◌++◌, ℕ, Bool, true, false, List, [], ◌∷◌, Option, Some, None, cond}
use Rattle.std.specs.Fmt.{decimal}
use Rattle.std.proofs.Common.{refl, ap, ◌∙◌}
use Rattle.sense_data.specs.declared.senses.Sense.{Sense}
use Rattle.text_fields.specs.Spelling.{line}
use Rattle.array_journal.specs.declared.event.Why.{Why}
use Rattle.array_journal.specs.declared.event.Why.TheVariants.{Illegal, Medium, NotReady, Unfitted, Present, Listed, Second, Clean, Absent, NotLost}
use Rattle.answer_text.specs.declared.check.Check.{Check}
use Rattle.answer_text.specs.Answers.{sense_check, check_text}
use Rattle.host_scripts.specs.declared.script.Action.{Action}
use Rattle.host_scripts.specs.declared.script.Action.TheVariants as actions
use Rattle.host_scripts.specs.Scripts.{letter}
use Rattle.host_requests.specs.Requests.{is_write}
use Rattle.stripe_check.specs.declared.command_summary.Tally.{Tally}
use Rattle.stripe_check.specs.declared.failure.Failure.{Failure}
use Rattle.stripe_check.specs.declared.failure.Failure.TheVariants as failures
use Rattle.stripe_check.specs.Replies.{refusal_check, failure_check, host_text, cdb_error, reply_text, failure_of}
use Rattle.stripe_check.specs.Tallies.{tally_of}
use Rattle.array_control.specs.Replies.{refusal_sense, failure_sense, host_reply, cdb_failure, read_failure, write_failure, reply_of, told_text}
use Rattle.array_control.specs.ReplyLaws.{EndedCallsAreServed, EndedCallsAreReported, RefusedCallsAreServed, RefusedCallsAreReported}

refusal-told : (medium : Sense) (why : Why) → refusal_check (sense_check medium) why ≡ sense_check (refusal_sense medium why)
refusal-told medium (Illegal sense) = refl
refusal-told medium Medium = refl
refusal-told medium NotReady = refl
refusal-told medium Unfitted = refl
refusal-told medium Present = refl
refusal-told medium Listed = refl
refusal-told medium Second = refl
refusal-told medium Clean = refl
refusal-told medium Absent = refl
refusal-told medium NotLost = refl

failure-told : (medium : Sense) (failure : Failure) → failure_check (sense_check medium) failure ≡ sense_check (failure_sense medium failure)
failure-told medium (failures.Refused why) = refusal-told medium why
failure-told medium failures.Spoilt = refl

host-told : (action : Action) (medium : Sense) (bytes : List ℕ) (failure : Option Failure) →
    host_text (sense_check medium) bytes failure ≡ told_text action (host_reply medium bytes failure)
host-told action medium bytes None = refl
host-told action medium bytes (Some failure) = ap check_text (failure-told medium failure)

cdb-told : (cdb : List ℕ) → cdb_error cdb ≡ sense_check (cdb_failure cdb)
cdb-told cdb = by (is_write cdb)
  where
    by : (b : Bool) → cond b (sense_check write_failure) (sense_check read_failure) ≡ sense_check (cond b write_failure read_failure)
    by true = refl
    by false = refl

pub replies-told : (action : Action) (bytes : List ℕ) (failure : Option Failure) (tally : Tally) →
    reply_text action bytes failure tally ≡ told_text action (reply_of action bytes failure tally)
replies-told (actions.Read lba count) bytes failure tally = host-told (actions.Read lba count) read_failure bytes failure
replies-told (actions.Write lba sent) bytes failure tally = host-told (actions.Write lba sent) write_failure bytes failure
replies-told (actions.Fill lba count byte) bytes failure tally = host-told (actions.Fill lba count byte) write_failure bytes failure
replies-told (actions.Raw cdb sent) bytes failure tally =
    ap (λ (check : Check). host_text check bytes failure) (cdb-told cdb) ∙ host-told (actions.Raw cdb sent) (cdb_failure cdb) bytes failure
replies-told (actions.Lose target) bytes failure tally = refl
replies-told (actions.Reset target) bytes failure tally = refl
replies-told (actions.DropNext target) bytes failure tally = refl
replies-told (actions.Replace target) bytes None tally = refl
replies-told (actions.Replace target) bytes (Some failure) tally = refl
replies-told (actions.Rebuild target) bytes failure tally = refl
replies-told actions.Resync bytes failure tally = refl

pub ended-served : EndedCallsAreServed
ended-served script whole past n t bytes failure ended = ended.steps

pub ended-told : EndedCallsAreReported
ended-told g past n count call bytes failure ended =
    ap (λ (text : List ℕ). line (decimal n ++ (32 ∷ letter call.host ∷ 32 ∷ text)))
    (ap (λ (read : List ℕ). reply_text call.action read (failure_of n past) (tally_of n past)) ended.told
    ∙ ap (λ (why : Option Failure). reply_text call.action bytes why (tally_of n past)) ended.failed
    ∙ replies-told call.action bytes failure (tally_of n past))

pub refused-served : RefusedCallsAreServed
refused-served script whole past n sense refused = refused.steps

pub refused-told : RefusedCallsAreReported
refused-told g past n call sense refused =
    ap (λ (text : List ℕ). line (decimal n ++ (32 ∷ letter call.host ∷ 32 ∷ text)))
    (ap (λ (read : List ℕ). reply_text call.action read (failure_of n past) (tally_of n past)) refused.told
    ∙ ap (λ (why : Option Failure). reply_text call.action [] why (tally_of n past)) refused.failed
    ∙ replies-told call.action [] (Some (failures.Refused (Illegal sense))) (tally_of n past))
