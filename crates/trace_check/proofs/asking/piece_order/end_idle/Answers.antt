use Rattle.trace_check.proofs.GivenUpPieces.{give-up}
use Rattle.trace_check.proofs.asking.piece_order.end_idle.Goals as goal

pub returns-in-GivenUp-clause-progress : goal.returns-in-GivenUp-clause-progress
returns-in-GivenUp-clause-progress c =
    λ rest. rw c.in-GivenUp.is (give-up c.args.pieces.fatal c.args.pieces.count c.args.next c.args.idle c.args.command rest c.requires)
