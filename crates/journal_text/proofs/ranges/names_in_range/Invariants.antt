use Rattle.std.proofs.Common.{take}
use Rattle.std.specs.List.{AllByRecursion}
use Rattle.journal_text.specs.Readable.{IsAt}
use Rattle.journal_text.proofs.ranges.names_in_range.Given as goal

abbrev pub invariant-loop-name : goal.invariant-loop-name
invariant-loop-name l = AllByRecursion IsAt (take l.name-index l.names)
