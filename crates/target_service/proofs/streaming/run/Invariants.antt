-- what was read so far is served as far as it goes, and the reads that may still come leave room for its bytes
use Rattle.std.proofs.Common.{◌≤◌, ◌-◌, ◌*◌}
use Rattle.target_frames.specs.State.{HasRoom}
use Rattle.target_service.specs.Progress.{AreCounting}
use Rattle.target_service.proofs.RunSteps.{IsRead}
use Rattle.target_service.proofs.streaming.run.Given as goal

abbrev pub invariant-loop : goal.invariant-loop
invariant-loop g l = record {
  so_far :
      IsRead (g.S.Source.left l.initial.source) (g.S.Source.left l.source) (g.K.Sink.written l.initial.out) (g.K.Sink.written l.out) l.frames l.service.opened l.bytes;
  counting : AreCounting l.service.opened;
  few : l.bytes ≤ 8192 * l.counter;
  room : HasRoom l.frames (8192 * (1125899906842624 - l.counter));
  source : g.S.Source.faults l.initial.source ≤ g.S.Source.faults l.source;
  out : g.K.Sink.faults l.initial.out ≤ g.K.Sink.faults l.out;
}
