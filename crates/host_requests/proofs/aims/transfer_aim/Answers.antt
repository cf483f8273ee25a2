use Rattle.std.proofs.Common.{sym, ◌∙◌}
use Rattle.host_requests.proofs.AimPieces.{piece-from}
use Rattle.host_requests.proofs.aims.transfer_aim.Goals as goal

pub piece_aim-requires-clause-from : goal.piece_aim-requires-clause-from
piece_aim-requires-clause-from c =
    piece-from c.args.script.now.geometry c.most_blocks-max.result c.args.transfer.lba c.args.transfer.count c.args.number c.in-Some.piece
    (sym c.piece_at.ensures ∙ c.in-Some.is)
