use Rattle.host_scripts.specs.BenchRefusals.{bench_grammar}
use Rattle.host_scripts.proofs.OneFirstRefusal.{one-first-refusal}
use Rattle.host_scripts.proofs.BenchClean.{bench-clean}
use Rattle.host_scripts.proofs.BenchWalk.{bench_nested}
use Rattle.host_scripts.proofs.bench_parsing.one_bench_refusal.Goals as goal

pub returns : goal.returns
returns c = one-first-refusal bench_grammar bench_nested bench-clean
