use Rattle.std.proofs.Common.{◌≡◌, ◌≤◌, ◌*◌, take}
use Rattle.host_scripts.specs.BenchLimits.{blocks_moved_by}
use Rattle.host_scripts.proofs.bench_limits.all_blocks.Given as goal

abbrev pub invariant-loop-line : goal.invariant-loop-line
invariant-loop-line l = record {
  so_far : l.sum ≡ blocks_moved_by l.rows (take l.line-index l.lines);
  small : l.sum ≤ 16777216 * l.line-index;
}
