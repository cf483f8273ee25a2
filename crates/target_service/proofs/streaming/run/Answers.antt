use Rattle.std.proofs.Common.{◌≡◌, ◌+◌, ◌*◌, ◌-◌, length, take, sym, subst, arith}
use Rattle.std.proofs.lemmas.List.{length-take-le}
use Rattle.std.proofs.lemmas.Result.{on_ok_weaker, IfErr-weaker}
use Rattle.target_service.specs.declared.findings.ServiceStop.{ServiceStop}
use Rattle.target_service.specs.Endings.{StopsRun}
use Rattle.target_service.proofs.StreamSteps.{room-less}
use Rattle.target_service.proofs.RunSteps.{read-next, read-none, read-stops, read-whole, read-ended, read-failed, read-wanting}
use Rattle.target_service.proofs.streaming.run.Goals as goal

-- a read failed
pub returns-in-Err-clause-stop : goal.returns-in-Err-clause-stop
returns-in-Err-clause-stop g c = read-failed _ _ _ _ _ _ _ _ _ _ (g.K.Sink.faults c.args.out.now) (g.K.Sink.faults c.loop.out) c.loop.invariant.so_far c.loop.invariant.source c.in-Err.ensures.failed

-- there were more reads than are made
pub returns-clause-stop : goal.returns-clause-stop
returns-clause-stop g c =
    read-wanting _ _ _ _ _ _ _ (g.S.Source.faults c.args.source.now) (g.S.Source.faults c.loop.source) (g.K.Sink.faults c.args.out.now) (g.K.Sink.faults c.loop.out) c.loop.invariant.so_far

-- the end of the stream
pub returns-then-count-eq0-clause-served : goal.returns-then-count-eq0-clause-served
returns-then-count-eq0-clause-served g c =
    let none : c.in-Ok.count ≡ 0 = c.if-count-eq0.true in
    on_ok_weaker c.at_end.result
    (λ whole. read-whole _ _ _ _ _ _ _ (read-none _ _ _ _ _ _ _ _ _ _ c.loop.invariant.so_far c.in-Ok.ensures.bytes none) (c.in-Ok.ensures.end none (omega arith)) whole) c.at_end.ensures.whole

pub returns-then-count-eq0-clause-stop : goal.returns-then-count-eq0-clause-stop
returns-then-count-eq0-clause-stop g c =
    let none : c.in-Ok.count ≡ 0 = c.if-count-eq0.true in
    let Stops : ServiceStop → Type 0 =
    λ stop.
    StopsRun (g.S.Source.left c.args.source.now) (g.S.Source.faults c.args.source.now) (g.S.Source.faults c.read.new.self) (g.K.Sink.written c.args.out.now) (g.K.Sink.written c.loop.out)
    (g.K.Sink.faults c.args.out.now) (g.K.Sink.faults c.loop.out) stop in
    IfErr-weaker c.at_end.result _ Stops
    (λ stop s.
    subst Stops (sym s.1.0)
    (read-ended _ _ _ _ _ _ _ (g.S.Source.faults c.args.source.now) (g.S.Source.faults c.read.new.self) (g.K.Sink.faults c.args.out.now) (g.K.Sink.faults c.loop.out) s.0 (read-none _ _ _ _ _ _ _ _ _ _ c.loop.invariant.so_far c.in-Ok.ensures.bytes none) (c.in-Ok.ensures.end none (omega arith)) s.1.1))
    c.at_end.ensures.stop

-- a piece stopped the service
pub returns-in-Err-take_piece-clause-stop : goal.returns-in-Err-take_piece-clause-stop
returns-in-Err-take_piece-clause-stop g c =
    read-stops _ _ _ _ _ _ _ _ _ _ _ _ (g.S.Source.faults c.args.source.now) (g.S.Source.faults c.read.new.self) _ c.in-Err-take_piece.ensures.stop.0 c.in-Err-take_piece.stop c.loop.invariant.so_far
    c.in-Ok.ensures.bytes c.loop.invariant.out c.in-Err-take_piece.ensures.stop.1.0 c.in-Err-take_piece.ensures.stop.1.1

-- a piece was served
pub loop-preserved : goal.loop-preserved
loop-preserved g c =
    let piece = take c.in-Ok.count c.read.new.into in
    let many : length piece ≡ c.in-Ok.count = length-take-le c.in-Ok.count c.read.new.into c.in-Ok.ensures.fits in
    let left = 8192 * (1125899906842624 - (c.loop.counter + 1)) in
    let room = room-less c.loop.frames (length piece + left) (8192 * (1125899906842624 - c.loop.counter)) (omega (arith, many, c.in-Ok.ensures.fits, c.loop-test.true)) c.loop.invariant.room in
    record {
      so_far =
          read-next _ _ _ _ _ _ _ _ _ _ c.loop.bytes c.in-Ok.count piece c.in_default.ensures.served.0 c.loop.invariant.so_far c.in-Ok.ensures.bytes many c.in_default.ensures.served.1.0
          c.in_default.ensures.served.1.1;
      counting = c.in_default.ensures.counting;
      few = omega (arith, c.loop.invariant.few, c.in-Ok.ensures.fits);
      room = c.in_default.ensures.room left room;
      source = omega (arith, c.loop.invariant.source, c.read.ensures.never_falls);
      out = omega (arith, c.loop.invariant.out, c.take_piece.ensures.never_falls);
    }
