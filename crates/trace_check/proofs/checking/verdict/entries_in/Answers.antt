use Rattle.std.proofs.Common.{arith}
use Rattle.std.proofs.lemmas.Result.{IfOk-weaker, IfErr-weaker}
use Rattle.trace_check.proofs.Accepted.{run-sound, found-at}
use Rattle.program_status.proofs.Endings.{stops-weaker}
use Rattle.trace_check.proofs.Inputs.{parts-short}
use Rattle.trace_check.proofs.checking.verdict.entries_in.Goals as goal

pub entries_of-requires : goal.entries_of-requires
entries_of-requires c = record { few = omega (arith, parts-short c.args.input.now _ c.in-Some.ensures, c.requires) }

pub returns-in-Some-clause-run : goal.returns-in-Some-clause-run
returns-in-Some-clause-run c =
    IfOk-weaker c.entries_of.result _ _ (λ entries run. (run.0, (run.1.0, (run-sound c.args.input.now _ run.0 run.1.0 c.requires c.in-Some.ensures run.1.1.0, run.1.1.1)))) c.entries_of.ensures.run

pub returns-in-Some-clause-stop : goal.returns-in-Some-clause-stop
returns-in-Some-clause-stop c =
    IfErr-weaker c.entries_of.result _ _ (λ stop s. stops-weaker _ _ _ (found-at c.args.input.now _ c.requires c.in-Some.ensures) stop s) c.entries_of.ensures.stop
