use Rattle.host_scripts.specs.BenchRefusals.{bench_grammar}
use Rattle.host_scripts.specs.BenchReading.{bench_at}
use Rattle.host_scripts.proofs.BenchWalk.{bench_reading}
use Rattle.host_scripts.proofs.WholeReading.{one-spelling}
use Rattle.host_scripts.proofs.bench_parsing.one_bench_spelling.Goals as goal

pub returns : goal.returns
returns c = one-spelling bench_grammar bench_at bench_reading
