use Rattle.std.proofs.Common.{◌≤◌, ◌-◌, length}
use Rattle.worked_cases.proofs.lists.runs_of.Given as goal

abbrev pub invariant-loop-place : goal.invariant-loop-place
invariant-loop-place l = l.place ≤ length l.lines

abbrev pub decreases-loop-place : goal.decreases-loop-place
decreases-loop-place l = length l.lines - l.place
