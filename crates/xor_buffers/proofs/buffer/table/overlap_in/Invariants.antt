use Rattle.std.proofs.Common.{◌≡◌, drop}
use Rattle.xor_buffers.specs.Runs.{run_overlap}
use Rattle.xor_buffers.proofs.buffer.table.overlap_in.Given as goal

abbrev pub invariant-loop-run : goal.invariant-loop-run
invariant-loop-run l = run_overlap l.row l.count (drop l.run-index l.runs) ≡ run_overlap l.row l.count l.runs
