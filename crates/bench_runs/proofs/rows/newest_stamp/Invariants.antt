-- the greatest so far, with those that are left, is that of all
use Rattle.std.proofs.Common.{◌≡◌, max, drop}
use Rattle.bench_runs.specs.BenchRuns.{newest_stamp}
use Rattle.bench_runs.proofs.rows.newest_stamp.Given as goal

abbrev pub invariant-loop-target : goal.invariant-loop-target
invariant-loop-target l = max l.newest (newest_stamp (drop l.target-index l.targets)) ≡ newest_stamp l.targets
