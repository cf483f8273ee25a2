-- so many bytes are the same, and what is the same behind them completes what is the same of all
use Rattle.std.proofs.Common.{◌≡◌, ◌≤◌, ◌+◌, ◌-◌, length, drop}
use Rattle.trace_check.specs.Findings.{common}
use Rattle.trace_check.proofs.checking.lines.common_len.Given as goal

abbrev pub invariant-loop-len : goal.invariant-loop-len
invariant-loop-len l = record {
  bound : l.len ≤ length l.text;
  within : l.len ≤ length l.other;
  ahead : l.len + length (common (drop l.len l.text) (drop l.len l.other)) ≡ length (common l.fn.text l.fn.other);
}

abbrev pub decreases-loop-len : goal.decreases-loop-len
decreases-loop-len l = length l.text - l.len
