use Rattle.std.proofs.Common.{◌≡◌, ◌+◌, ◌-◌, Some, ap, ◌∙◌, arith}
use Rattle.stripe_layout.specs.Pieces.{piece_of, first_count}
use Rattle.stripe_layout.proofs.StripeLaws.{most-capacity}
use Rattle.stripe_layout.proofs.PieceCode.{found-none, found-piece}
use Rattle.stripe_layout.proofs.geometry.Geometry.piece_at.Goals as goal

pub returns-then-begin-end : goal.returns-then-begin-end
returns-then-begin-end c =
    found-none c.args.self.now c.args.max c.args.lba c.args.count c.args.number c.piece_begin-begin.result c.requires.array c.requires.some c.requires.in_range
    c.piece_begin-begin.ensures (omega (arith, c.if-begin-end.true, c.from.ensures, c.from-2.ensures))

pub overflow_cast-begin : goal.overflow_cast-begin
overflow_cast-begin c = omega (arith, c.if-begin-end.false, c.from.ensures, c.from-2.ensures, c.requires.in_range, most-capacity c.args.self.now c.requires.array)

pub overflow_cast-end : goal.overflow_cast-end
overflow_cast-end c = omega (arith, c.from.ensures, c.from-2.ensures, c.requires.in_range, most-capacity c.args.self.now c.requires.array)

pub returns : goal.returns
returns c =
    let left : c.from.result + c.from-2.result - c.piece_begin-begin.result ≡ c.args.lba + c.args.count - c.piece_begin-begin.result = omega (arith, c.from.ensures, c.from-2.ensures) in
    ap Some c.first_piece.ensures.value
    ∙ ap (λ b. Some (piece_of c.args.self.now c.piece_begin-begin.result (first_count c.args.self.now c.args.max c.piece_begin-begin.result b))) left
    ∙ found-piece c.args.self.now c.args.max c.args.lba c.args.count c.args.number c.piece_begin-begin.result c.requires.array c.requires.some c.requires.in_range
    c.piece_begin-begin.ensures (omega (arith, c.if-begin-end.false, c.from.ensures, c.from-2.ensures))
