use Rattle.array_control.proofs.Settling.{served-turned, served-stands}
use Rattle.array_control.proofs.array.Array.serve.Goals as goal

pub returns-clause-turned : goal.returns-clause-turned
returns-clause-turned g c =
    served-turned _ c.args.run.now c.args.call c.advance.new.run c.in_ok-advanced.advanced c.turned_by.result _ _ c.requires.at_work
    c.in_ok-advanced.ensures.comes c.turned_by.ensures

pub returns-clause-stands : goal.returns-clause-stands
returns-clause-stands g c =
    served-stands _ c.args.run.now c.settle.new.run c.args.call c.advance.new.run c.in_ok-advanced.advanced _ _ c.requires.at_work
    c.in_ok-advanced.ensures.comes c.in_ok-settle.ensures
