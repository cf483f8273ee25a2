-- the targets so far are those that the bench has first
use Rattle.std.proofs.Common.{◌≡◌, map}
use Rattle.array_journal.specs.Lists.{numbers}
use Rattle.bench_runs.specs.BenchRuns.{first_target}
use Rattle.bench_runs.proofs.rows.first_row.Given as goal

abbrev pub invariant-loop-number : goal.invariant-loop-number
invariant-loop-number l = l.targets.items ≡ map (first_target l.bench) (numbers 0 l.number)
