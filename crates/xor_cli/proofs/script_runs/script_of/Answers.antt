use Rattle.std.proofs.Common.{subst}
use Rattle.host_scripts.specs.Refusals.{Refuses}
use Rattle.xor_cli.specs.declared.words.RunCommand.TheVariants.{Step}
use Rattle.xor_cli.proofs.Work.{stop-unspelt}
use Rattle.xor_cli.proofs.script_runs.script_of.Goals as goal

pub returns-in-Err-Refused-clause-stop : goal.returns-in-Err-Refused-clause-stop
returns-in-Err-Refused-clause-stop c = λ traced.
    stop-unspelt (Step traced) _ c.in-Err-Refused.line _ c.in-Err-Refused.cause _ _ c.requires
    (subst (Refuses c.args.input.now) c.in-Err-Refused.field-0-is c.in-Err-Refused.ensures.refused)
    c.from.ensures c.reason_of.ensures c.refused.ensures
