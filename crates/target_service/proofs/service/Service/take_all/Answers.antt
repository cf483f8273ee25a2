use Rattle.std.proofs.Common.{◌≡◌, [], List, length, ap, sym, subst, ◌∙◌, arith}
use Rattle.std.proofs.lemmas.List.{nil_from_length}
use Rattle.std.specs.Vec.Iter.{into_iter_items}
use Rattle.target_frames.specs.declared.items.Item.{Item}
use Rattle.target_frames.specs.Frames.{AreSound}
use Rattle.target_service.specs.Progress.{known_of}
use Rattle.target_service.proofs.ItemSteps.{AreTaken, none-taken, taken-next, taken-known, taken-all, taken-stops}
use Rattle.target_service.proofs.service.Service.take_all.Goals as goal

pub loop-item-init : goal.loop-item-init
loop-item-init g c =
    let old = c.args.self.now.opened in
    let out = g.K.Sink.written c.args.out.now in
    let all : into_iter_items c.into_iter-item-iterator.result ≡ c.args.items = c.into_iter-item-iterator.ensures.into_iter_gives.0 ∙ c.into_vec-item-items.ensures in
    record {
      taken = subst (λ (left : List Item). AreTaken old old c.args.items left out out) (sym all) (none-taken old c.args.items out);
      sound = subst (λ (left : List Item). AreSound (known_of old) left) (sym all) c.requires.sound;
      many = let gives = c.into_iter-item-iterator.ensures.into_iter_gives.1 in let whole = ap length c.into_iter-item-iterator.ensures.into_iter_gives.0 in omega (arith, gives, whole);
      counting = c.requires.counting;
      out = omega arith;
    }

pub take-requires-clause-sound : goal.take-requires-clause-sound
take-requires-clause-sound g c = (subst (λ (left : List Item). AreSound (known_of c.loop-item.self.opened) left) c.in-Some.ensures.steps.0 c.loop-item.invariant.sound).0

pub returns-in-Err-clause-stop : goal.returns-in-Err-clause-stop
returns-in-Err-clause-stop g c =
    let Taken : List Item → Type 0 = λ left. AreTaken c.args.self.now.opened c.loop-item.self.opened c.args.items left (g.K.Sink.written c.args.out.now) (g.K.Sink.written c.loop-item.out) in
    taken-stops _ _ _ (into_iter_items c.next.new.self) c.in-Some.item _ _ _ _ _ _ c.in-Err.ensures.stop.0 c.in-Err.stop (subst Taken c.in-Some.ensures.steps.0 c.loop-item.invariant.taken) c.loop-item.invariant.out
    c.in-Err.ensures.stop.1.0 c.in-Err.ensures.stop.1.1

pub loop-item-preserved : goal.loop-item-preserved
loop-item-preserved g c =
    let old = c.args.self.now.opened in
    let mid = c.loop-item.self.opened in
    let now = c.take.new.self.opened in
    let left = into_iter_items c.next.new.self in
    let Taken : List Item → Type 0 = λ items. AreTaken old mid c.args.items items (g.K.Sink.written c.args.out.now) (g.K.Sink.written c.loop-item.out) in
    let sound = subst (λ (items : List Item). AreSound (known_of mid) items) c.in-Some.ensures.steps.0 c.loop-item.invariant.sound in
    record {
      taken =
          taken-next old mid now c.args.items left c.in-Some.item _ _ _ c.in_default.ensures.served.0 (subst Taken c.in-Some.ensures.steps.0 c.loop-item.invariant.taken) c.in_default.ensures.known
          c.in_default.ensures.served.1.0 c.in_default.ensures.served.1.1;
      sound = subst (λ known. AreSound known left) (sym c.in_default.ensures.known) sound.1;
      many = let gone = c.in-Some.ensures.steps.1 in let short = ap length c.in-Some.ensures.steps.0 in omega (arith, c.loop-item.invariant.many, gone, short);
      counting = c.in_default.ensures.counting;
      out = omega (arith, c.loop-item.invariant.out, c.take.ensures.never_falls);
    }

pub returns-clause-known : goal.returns-clause-known
returns-clause-known g c =
    let Taken : List Item → Type 0 = λ left. AreTaken c.args.self.now.opened c.loop-item.self.opened c.args.items left (g.K.Sink.written c.args.out.now) (g.K.Sink.written c.loop-item.out) in
    let none : into_iter_items c.loop-item.item-iterator ≡ [] = nil_from_length (into_iter_items c.loop-item.item-iterator) (omega (arith, c.loop-item.invariant.many, c.in-None.ensures.steps.0)) in
    taken-known _ _ _ _ _ (subst Taken none c.loop-item.invariant.taken)

pub returns-clause-served : goal.returns-clause-served
returns-clause-served g c =
    let Taken : List Item → Type 0 = λ left. AreTaken c.args.self.now.opened c.loop-item.self.opened c.args.items left (g.K.Sink.written c.args.out.now) (g.K.Sink.written c.loop-item.out) in
    let none : into_iter_items c.loop-item.item-iterator ≡ [] = nil_from_length (into_iter_items c.loop-item.item-iterator) (omega (arith, c.loop-item.invariant.many, c.in-None.ensures.steps.0)) in
    taken-all _ _ _ _ _ (subst Taken none c.loop-item.invariant.taken)
