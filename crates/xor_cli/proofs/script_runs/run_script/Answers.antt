use Rattle.std.proofs.lemmas.Result.{IfOk-weaker}
use Rattle.xor_cli.proofs.script_runs.run_script.Goals as goal

-- the script that was read is the one that was run
pub returns-clause-made : goal.returns-clause-made
returns-clause-made c =
    IfOk-weaker c.made_of.result _ _ (λ made told. (c.in_ok-script.script, c.in_ok-script.ensures.accepted c.args.traced, told)) c.made_of.ensures.made

pub made_of-requires-clause-runnable : goal.made_of-requires-clause-runnable
made_of-requires-clause-runnable c = (c.in_ok-script.ensures.accepted c.args.traced).1
