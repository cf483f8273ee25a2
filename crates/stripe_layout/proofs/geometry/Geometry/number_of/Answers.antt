use Rattle.std.proofs.Common.{◌+◌, ◌/◌, arith}
use Rattle.stripe_layout.specs.Layout.{stripe_of, offset_in_unit, first_row}
use Rattle.stripe_layout.specs.PieceNumbers.{in_pieces}
use Rattle.stripe_layout.proofs.StripeLaws.{most-rows, row-below}
use Rattle.stripe_layout.proofs.PieceNumbers.{pieces-array}
use Rattle.stripe_layout.proofs.PieceCode.{number-row}
use Rattle.stripe_layout.proofs.geometry.Geometry.number_of.Goals as goal

pub overflow_add-first : goal.overflow_add-first
overflow_add-first c =
    let g = c.args.self.now in
    let p = in_pieces g c.args.max in
    rw (c.first_row-first.ensures.value, c.stripe_offset-found.ensures.stripe, c.stripe_offset-found.ensures.offset, c.stripe_offset-found.ensures.count, c.requires.pieces)
    (omega (
      arith,
      row-below p (stripe_of g c.args.lba) (first_row p (stripe_of g c.args.lba) + offset_in_unit g c.args.lba / c.args.max)
          (number-row g c.args.max c.args.lba c.requires.array c.requires.some c.requires.in_range),
      most-rows p (pieces-array g c.args.max c.requires.array c.requires.some),
    ))

pub lba_at-requires-clause-row : goal.lba_at-requires-clause-row
lba_at-requires-clause-row c =
    rw (c.first_row-first.ensures.value, c.stripe_offset-found.ensures.stripe, c.stripe_offset-found.ensures.offset, c.stripe_offset-found.ensures.count, c.requires.pieces)
    (number-row c.args.self.now c.args.max c.args.lba c.requires.array c.requires.some c.requires.in_range)
