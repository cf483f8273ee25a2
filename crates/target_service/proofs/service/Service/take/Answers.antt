use Rattle.std.proofs.Common.{List, ℕ, subst}
use Rattle.std.proofs.lemmas.Result.{on_ok_weaker, IfErr-weaker}
use Rattle.std.specs.Io.KnownBytes.{Appends}
use Rattle.target_frames.specs.declared.items.Item.{Item}
use Rattle.target_frames.specs.Frames.{IsSound}
use Rattle.target_service.specs.Progress.{known_of}
use Rattle.target_service.proofs.ItemSteps.{opening-sound, opened-goes, opened-halts, framed-asks, framed-known, framed-goes, framed-halts, framed-send}
use Rattle.target_service.proofs.service.Service.take.Goals as goal

-- ---- an opening

pub new-made-requires : goal.new-made-requires
new-made-requires g c = opening-sound c.args.self.now.opened _ _ _ _ (subst (λ (i : Item). IsSound (known_of c.args.self.now.opened) i) c.in-Opening.is c.requires.sound)

pub returns-in-Ok-clause-served : goal.returns-in-Ok-clause-served
returns-in-Ok-clause-served g c =
    opened-goes c.args.self.now.opened c.in-Ok.service c.args.item c.in-Opening.targets c.in-Opening.block c.in-Opening.buffer c.in-Opening.rows (g.K.Sink.written c.args.out.now) c.in-Opening.is c.requires.sound
    c.in-Ok.ensures.opened

pub returns-in-Opening-clause-stop : goal.returns-in-Opening-clause-stop
returns-in-Opening-clause-stop g c =
    opened-halts c.args.self.now.opened c.args.item c.in-Opening.targets c.in-Opening.block c.in-Opening.buffer c.in-Opening.rows c.in-Err.stop (g.K.Sink.written c.args.out.now) c.in-Opening.is c.requires.sound
    c.in-Err.ensures.stop

-- ---- a frame

pub answer-requires-clause-target : goal.answer-requires-clause-target
answer-requires-clause-target g c =
    framed-asks c.args.self.now.opened c.args.item c.in-Frame.kind c.in-Frame.target c.in-Frame.cdb c.in-Frame.bytes c.action_of-action.result c.in-Frame.is c.action_of-action.ensures c.requires.sound

pub returns-in-Ok-answer-clause-known : goal.returns-in-Ok-answer-clause-known
returns-in-Ok-answer-clause-known g c =
    on_ok_weaker c.send.result
    (λ sent.
    framed-known c.args.self.now.opened c.args.item c.in-Frame.kind c.in-Frame.target c.in-Frame.cdb c.in-Frame.bytes c.action_of-action.result c.in-Frame.is c.action_of-action.ensures c.answer.new.self.opened
    c.in-Ok-answer.reply c.in-Ok-answer.ensures.replied)
    c.send.ensures.ok

pub returns-in-Ok-answer-clause-served : goal.returns-in-Ok-answer-clause-served
returns-in-Ok-answer-clause-served g c =
    on_ok_weaker c.send.result
    (λ sent. (
      c.in-Ok-answer.reply,
      (
        subst (λ (t : List ℕ). Appends (g.K.Sink.written c.args.out.now) (g.K.Sink.written c.send.new.out) t) c.as_slice.ensures sent,
        framed-goes c.args.self.now.opened c.args.item c.in-Frame.kind c.in-Frame.target c.in-Frame.cdb c.in-Frame.bytes c.action_of-action.result c.in-Frame.is c.action_of-action.ensures
            c.answer.new.self.opened c.in-Ok-answer.reply c.in-Ok-answer.ensures.replied,
      ),
    ))
    c.send.ensures.ok

pub returns-in-Ok-answer-clause-stop : goal.returns-in-Ok-answer-clause-stop
returns-in-Ok-answer-clause-stop g c =
    IfErr-weaker c.send.result _ _
    (λ stop fault.
    framed-send c.args.self.now.opened c.args.item c.in-Frame.kind c.in-Frame.target c.in-Frame.cdb c.in-Frame.bytes c.action_of-action.result c.in-Frame.is c.action_of-action.ensures c.answer.new.self.opened
    c.in-Ok-answer.reply c.as_slice.result.now stop _ _ _ _ c.in-Ok-answer.ensures.replied c.as_slice.ensures fault)
    c.send.ensures.stop

pub returns-clause-stop : goal.returns-clause-stop
returns-clause-stop g c =
    framed-halts c.args.self.now.opened c.args.item c.in-Frame.kind c.in-Frame.target c.in-Frame.cdb c.in-Frame.bytes c.action_of-action.result c.in-Frame.is c.action_of-action.ensures c.in-Err-answer.stop
    (g.K.Sink.written c.args.out.now) c.in-Err-answer.ensures.stop
