use Rattle.std.proofs.lemmas.Result.{IfOk-weaker}
use Rattle.xor_cli.proofs.target_runs.run_target.Goals as goal

-- the bench that was read is the one that was run
pub returns-clause-made : goal.returns-clause-made
returns-clause-made c =
    IfOk-weaker c.made_of.result _ _ (λ made ran. (c.in_ok-bench.bench, c.in_ok-bench.ensures.accepted, ran)) c.made_of.ensures.made
