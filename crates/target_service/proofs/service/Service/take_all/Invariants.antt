-- the items so far were taken, and those that are left may stand behind them
use Rattle.std.proofs.Common.{◌≡◌, ◌≤◌, length}
use Rattle.std.specs.Vec.Iter.{into_iter_items, into_iter_len}
use Rattle.target_frames.specs.Frames.{AreSound}
use Rattle.target_service.specs.Progress.{AreCounting, known_of}
use Rattle.target_service.proofs.ItemSteps.{AreTaken}
use Rattle.target_service.proofs.service.Service.take_all.Given as goal

abbrev pub invariant-loop-item : goal.invariant-loop-item
invariant-loop-item g l = record {
  taken :
      AreTaken l.initial.self.opened l.self.opened l.fn.items (into_iter_items l.item-iterator) (g.K.Sink.written l.initial.out) (g.K.Sink.written l.out);
  sound : AreSound (known_of l.self.opened) (into_iter_items l.item-iterator);
  many : into_iter_len l.item-iterator ≡ length (into_iter_items l.item-iterator);
  counting : AreCounting l.self.opened;
  out : g.K.Sink.faults l.initial.out ≤ g.K.Sink.faults l.out;
}
