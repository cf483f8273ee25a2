use Rattle.std.proofs.Common.{◌+◌, ◌*◌, ◌<◌, subst, arith}
use Rattle.stripe_layout.specs.declared.geometry.Geometry.{Geometry}
use Rattle.stripe_layout.proofs.StripeLaws.{most-rows, row-below}
use Rattle.stripe_layout.proofs.PieceNumbers.{numbered}
use Rattle.stripe_layout.proofs.PieceCode.{begin-row, begin-small}
use Rattle.stripe_layout.specs.Layout.{capacity_of, stripe_of, unit_of, offset_in_unit, first_row}
use Rattle.stripe_layout.specs.PieceNumbers.{in_pieces}
use Rattle.stripe_layout.proofs.geometry.Geometry.begin_of.Goals as goal

pub overflow_mul-piece : goal.overflow_mul-piece
overflow_mul-piece c =
    let g = c.args.self.now in
    let p = in_pieces g c.args.max in
    let at = numbered g c.args.max c.args.number c.requires.array c.requires.some (subst (λ (x : Geometry). c.args.number < capacity_of x) c.requires.pieces c.requires.in_range) in
    rw (c.stripe_offset-found.ensures.offset, c.stripe_offset-found.ensures.count, c.requires.pieces)
    (omega (arith, begin-small g c.args.max c.args.number (stripe_of p c.args.number) (unit_of p c.args.number) (offset_in_unit p c.args.number) c.requires.array c.requires.some at))

pub overflow_add-first : goal.overflow_add-first
overflow_add-first c =
    let g = c.args.self.now in
    let p = in_pieces g c.args.max in
    let at = numbered g c.args.max c.args.number c.requires.array c.requires.some (subst (λ (x : Geometry). c.args.number < capacity_of x) c.requires.pieces c.requires.in_range) in
    rw (c.first_row-first.ensures.value, c.stripe_offset-found.ensures.stripe, c.stripe_offset-found.ensures.offset, c.stripe_offset-found.ensures.count, c.requires.pieces)
    (omega (
      arith,
      row-below g (stripe_of p c.args.number) (first_row g (stripe_of p c.args.number) + offset_in_unit p c.args.number * c.args.max)
          (begin-row g c.args.max c.args.number (stripe_of p c.args.number) (unit_of p c.args.number) (offset_in_unit p c.args.number) c.requires.some at),
      most-rows g c.requires.array,
    ))

pub lba_at-requires-clause-row : goal.lba_at-requires-clause-row
lba_at-requires-clause-row c =
    let g = c.args.self.now in
    let p = in_pieces g c.args.max in
    let at = numbered g c.args.max c.args.number c.requires.array c.requires.some (subst (λ (x : Geometry). c.args.number < capacity_of x) c.requires.pieces c.requires.in_range) in
    rw (c.first_row-first.ensures.value, c.stripe_offset-found.ensures.stripe, c.stripe_offset-found.ensures.offset, c.stripe_offset-found.ensures.count, c.requires.pieces)
    (begin-row g c.args.max c.args.number (stripe_of p c.args.number) (unit_of p c.args.number) (offset_in_unit p c.args.number) c.requires.some at)
