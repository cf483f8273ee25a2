use Rattle.std.proofs.Common.{take}
use Rattle.std.specs.List.{AllByRecursion}
use Rattle.journal_text.specs.Readable.{IsEntry}
use Rattle.journal_text.proofs.ranges.entries_in_range.Given as goal

abbrev pub invariant-loop-entry : goal.invariant-loop-entry
invariant-loop-entry l = AllByRecursion IsEntry (take l.entry-index l.entries)
