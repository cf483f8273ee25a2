use Rattle.std.proofs.Common.{◌≤◌}
use Rattle.worked_cases.proofs.lines.span_of.Given as goal

abbrev pub invariant-loop-place : goal.invariant-loop-place
invariant-loop-place l = l.from ≤ l.place
