use Rattle.std.proofs.Common.{◌≡◌, take}
use Rattle.std.specs.List.{flat_map}
use Rattle.journal_text.specs.Traces.{entry_line}
use Rattle.journal_text.proofs.printing.trace.Given as goal

abbrev pub invariant-loop-entry : goal.invariant-loop-entry
invariant-loop-entry l = l.text ≡ flat_map entry_line (take l.entry-index l.entry-items)
