use Rattle.std.proofs.Common.{◌≤◌}
use Rattle.library_calls.proofs.streams.push_stream.Given as goal

abbrev pub invariant-loop-cut : goal.invariant-loop-cut
invariant-loop-cut l = l.alike ≤ l.cut
