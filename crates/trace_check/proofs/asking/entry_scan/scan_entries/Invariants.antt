use Rattle.std.proofs.Common.{take, reverse}
use Rattle.journal_index.specs.Indexes.{IsIndexOf}
use Rattle.trace_check.specs.Scans.{IsScanOf}
use Rattle.trace_check.proofs.asking.entry_scan.scan_entries.Given as goal

abbrev pub invariant-loop-place : goal.invariant-loop-place
invariant-loop-place l = record {
  scan : IsScanOf l.script (reverse (take l.place l.entries)) l.scan;
  index : IsIndexOf (reverse (take l.place l.entries)) l.index;
}
