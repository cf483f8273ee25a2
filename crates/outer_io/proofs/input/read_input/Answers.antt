use Rattle.std.proofs.Common.{ℕ, length-take, length-append, arith}
use Rattle.outer_io.proofs.Known.{Consumes-more, Consumes-after_none, taken-all, taken-first, rest-all, rest-first, LosesAtMost-given}
use Rattle.outer_io.proofs.input.read_input.Goals as goal

pub returns-then-count-eq0-clause-bytes : goal.returns-then-count-eq0-clause-bytes
returns-then-count-eq0-clause-bytes g c =
    taken-all 50331649 _ _ _ (Consumes-after_none _ _ _ _ _ _ c.loop-chunk.invariant.given c.in_ok-count.ensures.bytes c.if-count-eq0.true)
    (c.in_ok-count.ensures.end c.if-count-eq0.true (omega (arith, length-take {A = ℕ}, c.read.auto.into, c.min-room.ensures)))
    c.loop-chunk.invariant.bound

pub returns-clause-bytes : goal.returns-clause-bytes
returns-clause-bytes g c = taken-first 50331649 _ _ _ c.loop-chunk.invariant.given (omega arith)

pub returns-then-count-eq0-clause-rest : goal.returns-then-count-eq0-clause-rest
returns-then-count-eq0-clause-rest g c =
    rest-all 50331649 _ _ _ (Consumes-after_none _ _ _ _ _ _ c.loop-chunk.invariant.given c.in_ok-count.ensures.bytes c.if-count-eq0.true)
    (c.in_ok-count.ensures.end c.if-count-eq0.true (omega (arith, length-take {A = ℕ}, c.read.auto.into, c.min-room.ensures)))
    c.loop-chunk.invariant.bound

pub returns-clause-rest : goal.returns-clause-rest
returns-clause-rest g c = rest-first 50331649 _ _ _ c.loop-chunk.invariant.given (omega arith)

pub returns-in_err-push_slice-clause-taken : goal.returns-in_err-push_slice-clause-taken
returns-in_err-push_slice-clause-taken g c memory =
    LosesAtMost-given 50331649 _ _ _ (Consumes-more _ _ _ _ _ c.loop-chunk.invariant.given c.in_ok-count.ensures.bytes)
    (omega (arith, length-append {A = ℕ}, length-take {A = ℕ}, c.read.auto.into, c.min-room.ensures, c.in_ok-count.ensures.fits))
