use Rattle.std.proofs.Common.{◌≡◌, ◌+◌, ◌≤◌, length}
use Rattle.host_scripts.specs.BenchReading.{bench_lines_at}
use Rattle.host_scripts.proofs.Loops.{with_front}
use Rattle.host_scripts.proofs.bench_actions.all_bench_lines.Given as goal

abbrev pub invariant-loop-rest : goal.invariant-loop-rest
invariant-loop-rest l = record {
  so_far : with_front l.lines (bench_lines_at l.targets (length l.rest) (l.first + length l.lines) l.rest) ≡ bench_lines_at l.targets (length l.bytes) l.first l.bytes;
  fewer : length l.lines + length l.rest ≤ length l.bytes;
}

abbrev pub decreases-loop-rest : goal.decreases-loop-rest
decreases-loop-rest l = length l.rest
