use Rattle.std.proofs.Common.{take, reverse}
use Rattle.array_journal.specs.Run.{Run}
use Rattle.run_check.specs.RunStates.{IsRunState}
use Rattle.run_check.proofs.faults.run_fault.Given as goal

abbrev pub invariant-loop-place : goal.invariant-loop-place
invariant-loop-place l = record {
  run : Run l.setting (take l.place l.entries);
  state : IsRunState l.setting (reverse (take l.place l.entries)) l.state;
}
