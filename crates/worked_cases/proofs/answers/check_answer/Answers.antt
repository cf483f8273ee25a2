use Rattle.std.proofs.Common.{List, Some, String, subst}
use Rattle.std.specs.declared.alloc.Global.{Global}
use Rattle.program_status.specs.Words.{texts}
use Rattle.worked_cases.specs.Answers.{CheckSays}
use Rattle.worked_cases.proofs.Answering.{check-told}
use Rattle.worked_cases.proofs.answers.check_answer.Goals as goal

pub returns : goal.returns
returns c =
    let Says : List (String Global) → Type 0 = λ words.
    CheckSays (texts words) (Some c.source_of-source.result.source.unread) (Some c.in_ok-out.out.sink.bytes) (Some c.check-status.new.out.sink.bytes)
    (Some c.in_ok-notes.notes.sink.bytes) (Some c.check-status.new.notes.sink.bytes) c.check-status.result in
    let says : Says c.as_slice.result.now = record {
      accepted = c.check-status.ensures.accepted;
      rejected = c.check-status.ensures.rejected;
      refused = c.check-status.ensures.refused;
      limited = c.check-status.ensures.limited;
      usage = c.check-status.ensures.causes.usage;
      no_other = c.check-status.ensures.no_other;
      unwritten = c.check-status.ensures.unwritten;
      noted = c.check-status.ensures.noted;
    } in
    check-told _ c.args.call.input _ _ _ _ _ _ _ c.source_of-source.ensures c.in_ok-out.ensures c.in_ok-notes.ensures
    c.answer_of.ensures.status c.answer_of.ensures.out c.answer_of.ensures.notes (subst Says c.as_slice.ensures.value says)
