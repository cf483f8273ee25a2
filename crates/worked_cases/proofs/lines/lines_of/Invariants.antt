use Rattle.std.proofs.Common.{◌≤◌, ◌+◌, length}
use Rattle.worked_cases.specs.Lines.{AreLines}
use Rattle.worked_cases.proofs.LineLaws.{IsPassed}
use Rattle.worked_cases.proofs.lines.lines_of.Given as goal

-- the lines that were taken are of the list, and so many lines stand before what is left
abbrev pub invariant-loop-rest : goal.invariant-loop-rest
invariant-loop-rest l = record {
  bound : l.number + length l.rest ≤ length l.list;
  passed : IsPassed l.list l.rest l.number;
  taken : AreLines l.list l.lines.items;
}

abbrev pub decreases-loop-rest : goal.decreases-loop-rest
decreases-loop-rest l = length l.rest
