use Rattle.std.proofs.Common.{ap, ◌∙◌}
use Rattle.std.specs.List.{flat_map}
use Rattle.std.proofs.lemmas.List.{take_all}
use Rattle.journal_text.specs.Traces.{entry_line, trace_of}
use Rattle.journal_text.proofs.printing.trace.Goals as goal

pub returns : goal.returns
unfolding trace_of
returns c =
    c.loop-entry.invariant
    ∙ ap (λ xs. flat_map entry_line xs) (take_all c.loop-entry.entry-index c.as_slice-entry-items.result.now c.loop-entry-test.false ∙ c.as_slice-entry-items.ensures)
