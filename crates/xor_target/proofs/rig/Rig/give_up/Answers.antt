use Rattle.xor_target.proofs.RigSteps.{failed-idle}
use Rattle.xor_target.proofs.rig.Rig.give_up.Goals as goal

pub hand-requires-clause-fits : goal.hand-requires-clause-fits
hand-requires-clause-fits g c = λ t at. tt

pub returns-clause-handed : goal.returns-clause-handed
returns-clause-handed g c = (c.hand.result, c.hand.ensures.handed)

pub returns-clause-idle : goal.returns-clause-idle
returns-clause-idle g c = failed-idle c.args.request.now c.hand.result c.hand.new.self c.hand.ensures.left
