use Rattle.xor_cli.specs.declared.words.RunCommand.TheVariants.{Step}
use Rattle.xor_cli.proofs.Work.{stop-subject}
use Rattle.xor_cli.proofs.script_runs.runnable_script.Goals as goal

pub returns-in-Err-clause-stop : goal.returns-in-Err-clause-stop
returns-in-Err-clause-stop c = λ traced.
    stop-subject (Step traced) _ c.in_ok-script.script _ (c.requires, c.in_ok-script.ensures.spelt) (c.in-Err.ensures.stop traced)
