use Rattle.std.proofs.Common.{take, reverse}
use Rattle.trace_check.specs.NotedLosses.{KeepsLives}
use Rattle.trace_check.proofs.asking.noted_losses.NotedLosses.new.Given as goal

abbrev pub invariant-loop-entry : goal.invariant-loop-entry
invariant-loop-entry l = KeepsLives (reverse l.entries) (reverse (take l.entry-index l.entries)) l.lives
