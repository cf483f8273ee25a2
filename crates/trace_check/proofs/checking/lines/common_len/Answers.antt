use Rattle.std.proofs.Common.{arith, drop}
use Rattle.trace_check.proofs.Places.{common-end}
use Rattle.trace_check.proofs.checking.lines.common_len.Goals as goal

pub returns-else-len-other-clause-value : goal.returns-else-len-other-clause-value
returns-else-len-other-clause-value c =
    omega (arith, c.loop-len.invariant.ahead, common-end (drop c.loop-len.len c.args.text.now) c.args.other.now c.loop-len.len (omega (arith, c.if-len-other.false)))
