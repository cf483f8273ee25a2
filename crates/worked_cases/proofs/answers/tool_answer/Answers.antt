use Rattle.std.proofs.Common.{List, Some, String, subst}
use Rattle.std.specs.declared.alloc.Global.{Global}
use Rattle.program_status.specs.Words.{texts}
use Rattle.worked_cases.specs.Answers.{ToolSays}
use Rattle.worked_cases.proofs.Answering.{tool-told}
use Rattle.worked_cases.proofs.answers.tool_answer.Goals as goal

pub returns : goal.returns
returns c =
    let Says : List (String Global) → Type 0 = λ words.
    ToolSays (texts words) (Some c.source_of-source.result.source.unread) (Some c.in_ok-out.out.sink.bytes) (Some c.tool-outcome.new.out.sink.bytes)
    (Some c.in_ok-notes.notes.sink.bytes) (Some c.tool-outcome.new.notes.sink.bytes) c.tool-outcome.result.status c.tool-outcome.result.journal in
    let says : Says c.as_slice.result.now = record {
      done = c.tool-outcome.ensures.done;
      refused = c.tool-outcome.ensures.refused;
      exceeded = c.tool-outcome.ensures.exceeded;
      usage = c.tool-outcome.ensures.causes.usage;
      no_other = c.tool-outcome.ensures.no_other;
      unwritten = c.tool-outcome.ensures.unwritten;
      noted = c.tool-outcome.ensures.noted;
    } in
    tool-told _ c.args.call.input _ _ _ _ _ _ _ _ c.source_of-source.ensures c.in_ok-out.ensures c.in_ok-notes.ensures
    c.answer_of.ensures.status c.answer_of.ensures.out c.answer_of.ensures.notes (subst Says c.as_slice.ensures.value says)
