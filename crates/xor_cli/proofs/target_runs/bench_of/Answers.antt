use Rattle.std.proofs.Common.{subst}
use Rattle.host_scripts.specs.BenchRefusals.{RefusesBench}
use Rattle.xor_cli.specs.declared.words.RunCommand.TheVariants.{Target}
use Rattle.xor_cli.proofs.Work.{stop-unspelt}
use Rattle.xor_cli.proofs.target_runs.bench_of.Goals as goal

pub returns-in-Err-Refused-clause-stop : goal.returns-in-Err-Refused-clause-stop
returns-in-Err-Refused-clause-stop c =
    stop-unspelt Target _ c.in-Err-Refused.line _ c.in-Err-Refused.cause _ _ c.requires
    (subst (RefusesBench c.args.input.now) c.in-Err-Refused.field-0-is c.in-Err-Refused.ensures.refused)
    c.from.ensures c.reason_of.ensures c.refused.ensures
