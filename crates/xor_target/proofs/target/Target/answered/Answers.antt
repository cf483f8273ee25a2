use Rattle.std.proofs.Common.{refl}
use Rattle.xor_target.specs.Resumes.{Continues, WantsMemory}
use Rattle.xor_target.proofs.target.Target.answered.Goals as goal

pub returns-then-sends : goal.returns-then-sends
returns-then-sends g c = c.folded.ensures c.args.bytes.now c.args.stamp

pub returns-in-Ok : goal.returns-in-Ok
returns-in-Ok g c = Continues c.args.bytes.now c.args.made.now c.requires.goes_on refl c.in-Ok.ensures.continued

pub returns-in-Err : goal.returns-in-Err
returns-in-Err g c = WantsMemory c.args.bytes.now c.args.made.now c.requires.goes_on c.requires.waits refl refl c.in-Err.ensures.memory
