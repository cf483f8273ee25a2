use Rattle.std.proofs.Common.{◌≡◌, [], refl, sym, ap, subst, ◌∙◌, rules}
use Rattle.program_status.proofs.Endings.{stop-found}
use Rattle.host_scripts.specs.declared.bench.Bench.{Bench}
use Rattle.host_scripts.specs.Benches.{IsBench}
use Rattle.host_scripts.specs.BenchLimits.{bench_limit_of}
use Rattle.bench_runs.specs.BenchRuns.{first_targets}
use Rattle.target_service.specs.declared.findings.ServiceLimit.TheVariants.{Media}
use Rattle.target_service.specs.declared.findings.ServiceFinding.TheVariants.{Over}
use Rattle.target_service.specs.Found.{finding_line}
use Rattle.target_service.specs.Progress.{TooMuch}
use Rattle.target_service.proofs.Counting.{bench-ranged, opening-fits, opening-passes}
use Rattle.target_service.proofs.open_service.OpenService.new.Goals as goal

pub over_bench-requires : goal.over_bench-requires
over_bench-requires c = subst IsBench (sym c.bench_of-bench.ensures) (bench-ranged c.args.targets c.args.block c.args.buffer c.args.rows c.requires)

pub first_row-requires : goal.first_row-requires
first_row-requires c = subst IsBench (sym c.bench_of-bench.ensures) (bench-ranged c.args.targets c.args.block c.args.buffer c.args.rows c.requires)

pub returns-then-is_some-clause-stop : goal.returns-then-is_some-clause-stop
returns-then-is_some-clause-stop c =
    stop-found finding_line (TooMuch c.args.targets c.args.block c.args.buffer c.args.rows) (Over Media) c.found.result c.found.ensures
    (opening-passes c.args.targets c.args.block c.args.buffer c.args.rows c.over_bench.result (c.over_bench.ensures ∙ ap bench_limit_of c.bench_of-bench.ensures)
    (sym c.is_some.ensures ∙ c.if-is_some.true))

pub returns-clause-count : goal.returns-clause-count
returns-clause-count c =
    c.in_ok-first_row.ensures.count ∙ ap (λ (b : Bench). b.targets) c.bench_of-bench.ensures

pub returns-clause-opened : goal.returns-clause-opened
returns-clause-opened c = record {
  count = c.args.targets;
  bytes = c.args.block;
  buffer = c.args.buffer;
  all = c.args.rows;
  behind = [];
  whole = refl;
  within =
      opening-fits c.args.targets c.args.block c.args.buffer c.args.rows c.over_bench.result (c.over_bench.ensures ∙ ap bench_limit_of c.bench_of-bench.ensures)
      (sym c.is_some.ensures ∙ c.if-is_some.false);
  replied = (c.in_ok-first_row.ensures.value ∙ ap first_targets c.bench_of-bench.ensures, refl);
  block = let same : c.from.result ≡ c.args.block = search rules in same;
  rows = refl;
  frames = refl;
  moved = refl;
}
