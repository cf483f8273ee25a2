use Rattle.std.proofs.Common.{◌∙◌, arith}
use Rattle.stripe_layout.proofs.PieceCode.{count-within, count-few}
use Rattle.stripe_layout.proofs.geometry.Geometry.piece_count.Goals as goal

pub returns-then-count-room_in_unit-clause-value : goal.returns-then-count-room_in_unit-clause-value
returns-then-count-room_in_unit-clause-value c =
    c.pieces_in.ensures.value
    ∙ count-within c.args.self.now c.args.max c.args.lba c.args.count c.requires.array c.requires.some (omega (arith, c.if-count-eq0.false)) c.requires.in_range
    (omega (arith, c.if-count-room_in_unit.true, c.room_in_unit.ensures.value))

pub returns-clause-few : goal.returns-clause-few
returns-clause-few c = omega (arith, c.pieces_past.ensures, count-few c.args.self.now c.args.max c.args.lba c.args.count)
