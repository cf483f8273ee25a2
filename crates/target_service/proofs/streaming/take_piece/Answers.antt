use Rattle.std.proofs.Common.{◌≡◌, [], Err, ap, ◌∙◌}
use Rattle.target_frames.specs.declared.fault.FrameFault.TheVariants.{Field}
use Rattle.std.proofs.lemmas.Result.{on_ok_weaker, IfErr-weaker}
use Rattle.outer_io.proofs.Known.{Appends-none}
use Rattle.target_service.proofs.StreamSteps.{piece-sound, piece-served, piece-halts, piece-refused, piece-wanting, held-back, served-of}
use Rattle.target_service.proofs.streaming.take_piece.Goals as goal

-- ---- items were handed out

pub take_all-requires-clause-sound : goal.take_all-requires-clause-sound
take_all-requires-clause-sound g c =
    let r = c.requires.at in
    let a = r.1.1 in
    piece-sound r.0 r.1.0 c.args.frames.now c.args.service.now.opened a _ c.in-Ok.items c.feed.new.self (c.in-Ok.ensures.items r.0 a.given a.follows)

pub returns-in-Ok-clause-room : goal.returns-in-Ok-clause-room
returns-in-Ok-clause-room g c = on_ok_weaker c.take_all.result (λ known. c.feed.ensures.room) c.take_all.ensures.known

pub returns-in-Ok-clause-served : goal.returns-in-Ok-clause-served
returns-in-Ok-clause-served g c =
    served-of c.take_all.result c.take_all.ensures.known c.take_all.ensures.served
    (piece-served c.args.frames.now c.feed.new.self c.args.service.now.opened c.take_all.new.self.opened c.args.piece.now c.in-Ok.items _ _ c.in-Ok.ensures.items c.in-Ok.ensures.reading)

pub returns-in-Ok-clause-stop : goal.returns-in-Ok-clause-stop
returns-in-Ok-clause-stop g c =
    IfErr-weaker c.take_all.result _ _
    (λ stop. piece-halts c.args.frames.now c.feed.new.self c.args.service.now.opened c.args.piece.now c.in-Ok.items _ _ _ _ stop c.in-Ok.ensures.items) c.take_all.ensures.stop

-- ---- a field is refused

pub refuse-requires-clause-held : goal.refuse-requires-clause-held
refuse-requires-clause-held g c =
    let r = c.requires.at in
    let a = r.1.1 in
    let fault : c.feed.result ≡ Err (Field c.in-Field.byte) = c.in-Err.is ∙ ap Err c.in-Field.is in (
      _,
      (
        r.1.0,
        held-back r.0 r.1.0 c.args.piece.now c.args.frames.now c.feed.new.self c.args.service.now.opened c.in-Field.byte a
            (c.feed.ensures.refused c.in-Field.byte fault r.0 a.given a.follows) (c.feed.ensures.field c.in-Field.byte fault),
      ),
    )

pub returns-in-Field-clause-stop : goal.returns-in-Field-clause-stop
returns-in-Field-clause-stop g c =
    let fault : c.feed.result ≡ Err (Field c.in-Field.byte) = c.in-Err.is ∙ ap Err c.in-Field.is in
    piece-refused c.args.frames.now c.feed.new.self c.args.service.now.opened c.args.piece.now c.in-Field.byte _ _ _ _ c.refuse.result
    (c.feed.ensures.refused c.in-Field.byte fault) (c.feed.ensures.field c.in-Field.byte fault) c.refuse.ensures.stop

-- ---- memory ran out

pub returns-in-Memory-clause-stop : goal.returns-in-Memory-clause-stop
returns-in-Memory-clause-stop g c =
    ([], (Appends-none _, λ read sent a. piece-wanting read sent c.args.piece.now c.args.frames.now c.args.service.now.opened a))
