use Rattle.xor_cli.proofs.Benches.{few-lines}
use Rattle.xor_cli.proofs.target_runs.made_of.Goals as goal

pub run_bench-requires-clause-fewer : goal.run_bench-requires-clause-fewer
run_bench-requires-clause-fewer c = few-lines c.args.bench.now c.requires.1
