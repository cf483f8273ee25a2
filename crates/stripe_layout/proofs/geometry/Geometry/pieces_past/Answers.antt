use Rattle.std.proofs.Common.{◌+◌, ◌-◌, arith}
use Rattle.stripe_layout.proofs.StripeLaws.{most-capacity}
use Rattle.stripe_layout.proofs.PieceCode.{count-past, count-few, numbers-rise}
use Rattle.stripe_layout.proofs.geometry.Geometry.pieces_past.Goals as goal

pub overflow_add-lba : goal.overflow_add-lba
overflow_add-lba c = omega (arith, c.room_in_unit-room.ensures.value, c.requires.past, c.requires.in_range, most-capacity c.args.self.now c.requires.array)

pub overflow_add-lba-2 : goal.overflow_add-lba-2
overflow_add-lba-2 c = omega (arith, c.requires.in_range, most-capacity c.args.self.now c.requires.array)

pub overflow_sub-result : goal.overflow_sub-result
overflow_sub-result c =
    rw (c.number_of-first.ensures.value, c.number_of-last.ensures.value)
    (numbers-rise c.args.self.now c.args.max (c.args.lba + c.room_in_unit-room.result) (c.args.lba + (c.args.count - 1)) c.requires.array c.requires.some
    (omega (arith, c.room_in_unit-room.ensures.value, c.requires.past)) (omega (arith, c.requires.in_range, c.requires.past)))

pub overflow_add-result : goal.overflow_add-result
overflow_add-result c =
    omega (arith, c.number_of-last.ensures.in_range, most-capacity c.in_pieces-pieces.result c.in_pieces-pieces.ensures.array)

pub overflow_add-result-2 : goal.overflow_add-result-2
overflow_add-result-2 c =
    rw (c.pieces_in.ensures.value, c.number_of-last.ensures.value, c.number_of-first.ensures.value, c.room_in_unit-room.ensures.value)
    (omega (
      arith,
      count-past c.args.self.now c.args.max c.args.lba c.args.count c.requires.array c.requires.some c.requires.in_range c.requires.past,
      count-few c.args.self.now c.args.max c.args.lba c.args.count,
      c.ranges.count,
    ))

pub returns : goal.returns
returns c =
    rw (c.pieces_in.ensures.value, c.number_of-last.ensures.value, c.number_of-first.ensures.value, c.room_in_unit-room.ensures.value)
    (count-past c.args.self.now c.args.max c.args.lba c.args.count c.requires.array c.requires.some c.requires.in_range c.requires.past)
