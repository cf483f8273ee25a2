use Rattle.host_scripts.specs.BenchRefusals.{bench_grammar}
use Rattle.host_scripts.specs.BenchReading.{bench_at}
use Rattle.host_scripts.proofs.BenchWalk.{bench_reading}
use Rattle.host_scripts.proofs.WholeReading.{read-clause, spelt-clause, refused-clause}
use Rattle.host_scripts.proofs.bench_parsing.parse_bench.Goals as goal

pub returns-clause-read : goal.returns-clause-read
returns-clause-read c = read-clause bench_grammar bench_at bench_reading c.args.bytes.now c.read_bench.result c.read_bench.ensures

pub returns-clause-spelt : goal.returns-clause-spelt
returns-clause-spelt c = spelt-clause bench_grammar bench_at bench_reading c.args.bytes.now c.read_bench.result c.read_bench.ensures

pub returns-clause-refused : goal.returns-clause-refused
returns-clause-refused c = refused-clause bench_grammar bench_at bench_reading c.args.bytes.now c.read_bench.result c.read_bench.ensures
