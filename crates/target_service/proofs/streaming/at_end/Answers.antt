use Rattle.std.proofs.Common.{refl}
use Rattle.program_status.proofs.Endings.{stop-found}
use Rattle.target_service.specs.declared.findings.ServiceFinding.{ServiceFinding}
use Rattle.target_service.specs.declared.findings.ServiceFinding.TheVariants.{Ended}
use Rattle.target_service.specs.Found.{finding_line, IsFoundServed}
use Rattle.target_service.proofs.StreamSteps.{tested-whole, tested-ended}
use Rattle.target_service.proofs.streaming.at_end.Goals as goal

pub returns-then-is_whole-clause-whole : goal.returns-then-is_whole-clause-whole
returns-then-is_whole-clause-whole c = λ read sent a. tested-whole read sent c.args.frames.now c.args.service.now.opened c.is_whole.result c.is_whole.ensures c.if-is_whole.true a

pub returns-clause-stop : goal.returns-clause-stop
returns-clause-stop c = (
  c.found.result,
  (
    refl,
    λ read sent a count.
        stop-found finding_line (λ (f : ServiceFinding). IsFoundServed read f sent) (Ended c.args.bytes) c.found.result c.found.ensures
        (tested-ended read sent c.args.frames.now c.args.service.now.opened c.is_whole.result c.args.bytes c.is_whole.ensures c.if-is_whole.false count a),
  ),
)
