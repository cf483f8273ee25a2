use Rattle.std.proofs.Common.{take, reverse}
use Rattle.array_journal.specs.Run.{Run}
use Rattle.run_check.specs.RunStates.{IsRunState}
use Rattle.trace_check.specs.Scans.{IsScanOf}
use Rattle.trace_check.proofs.judging.scan_run.Given as goal

abbrev pub invariant-loop-place : goal.invariant-loop-place
invariant-loop-place l = record {
  run : Run l.setting (take l.place l.entries);
  state : IsRunState l.setting (reverse (take l.place l.entries)) l.state;
  scan : IsScanOf l.script (reverse (take l.place l.entries)) l.scan;
}
