use Rattle.xor_cli.specs.declared.words.RunCommand.TheVariants.{Target}
use Rattle.xor_cli.proofs.Work.{stop-subject}
use Rattle.xor_cli.proofs.target_runs.runnable_bench.Goals as goal

pub returns-in-Err-clause-stop : goal.returns-in-Err-clause-stop
returns-in-Err-clause-stop c =
    stop-subject Target _ c.in_ok-bench.bench _ (c.requires, c.in_ok-bench.ensures.spelt) c.in-Err.ensures.stop
