use Rattle.std.proofs.Common.{List, Some, String, subst}
use Rattle.std.specs.declared.alloc.Global.{Global}
use Rattle.program_status.specs.Words.{texts}
use Rattle.worked_cases.specs.Answers.{ServeSays}
use Rattle.worked_cases.proofs.Answering.{serve-told}
use Rattle.worked_cases.proofs.answers.serve_answer.Goals as goal

pub returns : goal.returns
returns c =
    let Says : List (String Global) → Type 0 = λ words.
    ServeSays (texts words) (Some c.source_of-source.result.source.unread) (Some c.in_ok-out.out.sink.bytes) (Some c.serve-status.new.out.sink.bytes)
    (Some c.in_ok-notes.notes.sink.bytes) (Some c.serve-status.new.notes.sink.bytes) c.serve-status.result in
    let says : Says c.as_slice.result.now = record {
      served = c.serve-status.ensures.served;
      refused = c.serve-status.ensures.refused;
      limited = c.serve-status.ensures.limited;
      read_fault = c.serve-status.ensures.read_fault;
      no_memory = c.serve-status.ensures.no_memory;
      usage = c.serve-status.ensures.causes.usage;
      no_other = c.serve-status.ensures.no_other;
      noted = c.serve-status.ensures.noted;
    } in
    serve-told _ c.args.call.input _ _ _ _ _ _ _ c.source_of-source.ensures c.in_ok-out.ensures c.in_ok-notes.ensures
    c.answer_of.ensures.status c.answer_of.ensures.out c.answer_of.ensures.notes (subst Says c.as_slice.ensures.value says)
