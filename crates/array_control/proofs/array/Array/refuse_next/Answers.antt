use Rattle.array_control.proofs.Settling.{refused-stands}
use Rattle.array_control.proofs.array.Array.refuse_next.Goals as goal

pub returns-clause-stands : goal.returns-clause-stands
returns-clause-stands g c =
    refused-stands _ c.args.run.now c.tell.new.self c.args.number c.args.fault c.sense.result _ _ c.requires.at_work c.in_ok-pass.ensures.grown
    c.in_ok-pass.ensures.refused c.sense.ensures c.in_ok-tell.ensures.told
