use Rattle.std.proofs.Common.{◌≡◌, ◌==◌, ap, ◌∙◌, sym, subst, get_or, Option, Some, IfSome}
use Rattle.std.specs.Prelude.{slice_set}
use Rattle.xor_target.specs.declared.waiting.Waiting.{Waiting}
use Rattle.xor_target.specs.Waits.{WaitingRoom, CanAccept, accepting, waiting_of}
use Rattle.xor_target.proofs.WaitLists.{found-at, placed}
use Rattle.xor_target.proofs.WaitingSources.{changed-first}
use Rattle.xor_target.proofs.waiting.WaitingList.accept.Goals as goal

pub unwrap-place-requires : goal.unwrap-place-requires
unwrap-place-requires c = placed (λ (w : Waiting). w.owner == c.args.owner) c.args.self.now.list c.place_of.result (sym c.place_of.ensures) c.requires.waits

pub accept-requires : goal.accept-requires
accept-requires c =
    let list = c.args.self.now.list in
    let place = c.unwrap-place.result in
    let waiting = c.index_mut-waiting.result.now in
    let found : Some waiting ≡ waiting_of c.args.owner list =
    found-at (λ (w : Waiting). w.owner == c.args.owner) list place waiting (sym c.place_of.ensures ∙ c.unwrap-place.ensures)
    (c.index_mut-waiting.ensures.value ∙ ap (λ (r : WaitingRoom). get_or r.list place waiting) c.self.view_is) in
    subst (λ (o : Option Waiting). IfSome o (λ (w : Waiting). IfSome w.gathering (CanAccept c.args.bytes.now))) (sym found) c.requires.fits

pub returns : goal.returns
returns c =
    let made = c.args.made in
    let bytes = c.args.bytes.now in
    let items = c.self.inside.kept.items in
    let place = c.unwrap-place.result in
    let waiting = c.index_mut-waiting.result.now in
    ap (λ (w : Waiting). slice_set items place w) (c.accept.ensures ∙ ap (λ (w : Waiting). accepting made bytes w) c.index_mut-waiting.ensures.value)
    ∙ ap (λ (r : WaitingRoom). slice_set r.list place (accepting made bytes (get_or r.list place waiting))) c.self.view_is
    ∙ changed-first c.args.owner made bytes c.args.self.now.list place waiting (sym c.place_of.ensures ∙ c.unwrap-place.ensures)
