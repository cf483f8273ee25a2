use Rattle.std.proofs.Common.{subst, List, ℕ}
use Rattle.std.proofs.lemmas.Result.{IfOk-weaker, IfErr-weaker}
use Rattle.program_status.specs.Endings.{IsInputTaken}
use Rattle.program_status.proofs.Endings.{after-both}
use Rattle.trace_check.specs.Endings.{StopsBy, IsRunOf}
use Rattle.trace_check.specs.Findings.{IsFound}
use Rattle.trace_check.proofs.Accepted.{run-read, stops-read}
use Rattle.trace_check.proofs.checking.verdict.source_line.Goals as goal

pub returns-clause-told : goal.returns-clause-told
returns-clause-told g c =
    IfOk-weaker c.input_line.result _ _ (λ text told. (told.0, (run-read _ c.in_ok-input.input told.0 c.in_ok-input.ensures.bytes (let P : List ℕ → Type 0 = λ b. IsRunOf b told.0 in subst P c.as_slice.ensures told.1.0), told.1.1))) c.input_line.ensures.told

pub returns-clause-stop : goal.returns-clause-stop
returns-clause-stop g c =
    IfErr-weaker c.input_line.result _ _ (λ stop s. stops-read _ c.in_ok-input.input _ _ stop c.in_ok-input.ensures.bytes (let P : List ℕ → Type 0 = λ b. StopsBy (IsFound b) stop in subst P c.as_slice.ensures s)) c.input_line.ensures.stop

pub returns-clause-taken : goal.returns-clause-taken
returns-clause-taken g c =
    after-both (IsInputTaken (g.S.Source.left c.args.source.now) (g.S.Source.left c.read_input.new.source)) c.input_line.result c.in_ok-input.ensures.rest
