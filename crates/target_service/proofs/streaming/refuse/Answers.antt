use Rattle.std.proofs.Common.{refl, sym, subst}
use Rattle.target_frames.specs.Frames.{AreSound}
use Rattle.target_service.specs.Progress.{known_of}
use Rattle.target_service.proofs.StreamSteps.{held-sound, refused-found, refused-stops}
use Rattle.target_service.proofs.streaming.refuse.Goals as goal

pub take_all-requires-clause-sound : goal.take_all-requires-clause-sound
take_all-requires-clause-sound g c =
    let h = c.requires.held in
    subst (AreSound (known_of c.args.service.now.opened)) (sym c.take-items.ensures.items)
    (held-sound h.0 h.1.0 c.args.frames.now c.args.service.now.opened c.args.byte h.1.1)

pub returns-in-Ok-clause-stop : goal.returns-in-Ok-clause-stop
returns-in-Ok-clause-stop g c =
    refused-found c.args.frames.now c.args.service.now.opened c.take_all.new.self.opened c.args.byte c.take-items.result _ _ (g.K.Sink.faults c.args.out.now) (g.K.Sink.faults c.take_all.new.out) c.found.result _
    c.take-items.ensures.items c.in-Ok.ensures.served c.found.ensures refl

pub returns-in-Err-clause-stop : goal.returns-in-Err-clause-stop
returns-in-Err-clause-stop g c =
    refused-stops c.args.frames.now c.args.service.now.opened c.args.byte c.take-items.result _ _ _ _ c.in-Err.stop c.take-items.ensures.items c.in-Err.ensures.stop
