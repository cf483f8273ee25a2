use Rattle.std.proofs.Common.{◌≡◌, ◌+◌, ◌-◌, ◌∙◌, ap, arith}
use Rattle.stripe_layout.specs.Layout.{room_in_unit, capacity_of}
use Rattle.stripe_layout.specs.PieceNumbers.{pieces_in, in_pieces, number_of, begin_of}
use Rattle.stripe_layout.proofs.PieceCode.{begins-here, begins-nowhere, begins-past, begins-there}
use Rattle.stripe_layout.proofs.geometry.Geometry.piece_begin.Goals as goal

pub returns-then-number-head : goal.returns-then-number-head
returns-then-number-head c =
    let head : c.pieces_in-head.result ≡ pieces_in c.args.max (room_in_unit c.args.self.now c.args.lba) = c.pieces_in-head.ensures.value ∙ ap (pieces_in c.args.max) c.room_in_unit-room.ensures.value in
    rw (c.from.ensures, c.from-then-number-head.ensures, c.from-then-number-head-2.ensures)
    (begins-here c.args.self.now c.args.max c.args.lba c.args.number c.requires.array c.requires.some c.requires.in_range (omega (arith, head, c.if-number-head.true)))

pub returns-then-next-capacity : goal.returns-then-next-capacity
returns-then-next-capacity c =
    let head : c.pieces_in-head.result ≡ pieces_in c.args.max (room_in_unit c.args.self.now c.args.lba) = c.pieces_in-head.ensures.value ∙ ap (pieces_in c.args.max) c.room_in_unit-room.ensures.value in
    c.capacity-then-next-capacity.ensures.value
    ∙ begins-nowhere c.args.self.now c.args.max c.args.lba c.args.number c.requires.array c.requires.some c.requires.in_range (omega (arith, head, c.if-number-head.false))
    (omega (arith, c.if-next-capacity.true, c.from-2.ensures, c.from-3.ensures, c.room_in_unit-room.ensures.value, c.capacity.ensures.value))

pub returns-then-reached-capacity : goal.returns-then-reached-capacity
returns-then-reached-capacity c =
    let g = c.args.self.now in
    let head : c.pieces_in-head.result ≡ pieces_in c.args.max (room_in_unit g c.args.lba) = c.pieces_in-head.ensures.value ∙ ap (pieces_in c.args.max) c.room_in_unit-room.ensures.value in
    let next : c.from-2.result + c.from-3.result ≡ c.args.lba + room_in_unit g c.args.lba = omega (arith, c.from-2.ensures, c.from-3.ensures, c.room_in_unit-room.ensures.value) in
    let first : c.number_of.result ≡ number_of g c.args.max (c.args.lba + room_in_unit g c.args.lba) = c.number_of.ensures.value ∙ ap (number_of g c.args.max) next in
    let all : c.capacity-2.result ≡ capacity_of (in_pieces g c.args.max) = c.capacity-2.ensures.value ∙ ap capacity_of c.in_pieces-pieces.ensures.value in
    c.capacity-then-reached-capacity.ensures.value
    ∙ begins-past g c.args.max c.args.lba c.args.number c.requires.array c.requires.some c.requires.in_range (omega (arith, head, c.if-number-head.false))
    (omega (arith, c.if-next-capacity.false, next, c.capacity.ensures.value))
    (omega (arith, c.if-reached-capacity.true, all, first, head, c.from-4.ensures, c.from-5.ensures))

pub returns : goal.returns
returns c =
    let g = c.args.self.now in
    let head : c.pieces_in-head.result ≡ pieces_in c.args.max (room_in_unit g c.args.lba) = c.pieces_in-head.ensures.value ∙ ap (pieces_in c.args.max) c.room_in_unit-room.ensures.value in
    let next : c.from-2.result + c.from-3.result ≡ c.args.lba + room_in_unit g c.args.lba = omega (arith, c.from-2.ensures, c.from-3.ensures, c.room_in_unit-room.ensures.value) in
    let first : c.number_of.result ≡ number_of g c.args.max (c.args.lba + room_in_unit g c.args.lba) = c.number_of.ensures.value ∙ ap (number_of g c.args.max) next in
    let all : c.capacity-2.result ≡ capacity_of (in_pieces g c.args.max) = c.capacity-2.ensures.value ∙ ap capacity_of c.in_pieces-pieces.ensures.value in
    let number : c.from-4.result + c.from-5.result ≡ number_of g c.args.max (c.args.lba + room_in_unit g c.args.lba) + (c.args.number - pieces_in c.args.max (room_in_unit g c.args.lba)) =
    omega (arith, first, head, c.from-4.ensures, c.from-5.ensures) in
    c.from-6.ensures ∙ c.begin_of.ensures.value ∙ ap (begin_of g c.args.max) number
    ∙ begins-there g c.args.max c.args.lba c.args.number c.requires.array c.requires.some c.requires.in_range (omega (arith, head, c.if-number-head.false))
    (omega (arith, c.if-next-capacity.false, next, c.capacity.ensures.value))
    (omega (arith, c.if-reached-capacity.false, all, number))
