-- so many lines end so far
use Rattle.std.proofs.Common.{◌≡◌, ◌≤◌, take}
use Rattle.trace_check.specs.Findings.{line_ends}
use Rattle.trace_check.proofs.checking.lines.ends_in.Given as goal

abbrev pub invariant-loop-byte : goal.invariant-loop-byte
invariant-loop-byte l = record {
  so_far : l.ends ≡ line_ends (take l.byte-index l.bytes);
  small : l.ends ≤ l.byte-index;
}
