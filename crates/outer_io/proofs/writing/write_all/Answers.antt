use Rattle.std.proofs.Common.{ℕ, length-drop, arith}
use Rattle.outer_io.proofs.Known.{at-err, AppendsPrefix-after, Appends-part}
use Rattle.outer_io.proofs.writing.write_all.Goals as goal

pub returns-in_err-done-clause-prefix : goal.returns-in_err-done-clause-prefix
returns-in_err-done-clause-prefix g c =
    at-err _ (AppendsPrefix-after _ (g.K.Sink.written c.loop-done.sink) _ c.loop-done.done _ c.loop-done.invariant.written c.in_err-done.ensures.bytes)

pub loop-done-preserved : goal.loop-done-preserved
loop-done-preserved g c = record {
  within = omega (arith, length-drop {A = ℕ}, c.in_ok-done.ensures.fits);
  written = Appends-part _ _ _ c.loop-done.done _ _ c.loop-done.invariant.written c.in_ok-done.ensures.bytes;
  count = omega arith;
}
