use Rattle.std.proofs.Common.{◌≡◌, ◌++◌, ℕ, List, ap, sym, ◌∙◌, subst}
use Rattle.xor_mode_page.specs.declared.pages.XorPage.{XorPage}
use Rattle.array_journal.specs.declared.at.At.{At}
use Rattle.xor_target.specs.declared.admission.Admitted.{Admitted}
use Rattle.xor_target.specs.declared.answer.Answer.{Answer}
use Rattle.xor_target.specs.declared.answer.Answer.TheVariants as answers
use Rattle.xor_target.specs.declared.order.Order.{Order}
use Rattle.xor_target.specs.declared.order.PeerRequest.{PeerRequest}
use Rattle.xor_target.specs.declared.waiting.Waiting.{Waiting}
use Rattle.xor_target.specs.Acts.{IsPossible}
use Rattle.xor_target.specs.Answers.{IsActed, newest_stamp}
use Rattle.xor_target.specs.Gathers.{GatheringState, IsUnderWay, done_order, read_request}
use Rattle.regen_rebuild.specs.Gatherings.{size}
use Rattle.std.specs.Prelude.{length}
use Rattle.xor_target.specs.Resumes.{HasContinued, IsFinished, Asks, Finishes, no_longer}
use Rattle.xor_target.specs.State.{state_of}
use Rattle.xor_target.specs.Waits.{with_source}
use Rattle.xor_target.proofs.Continued.{IsHeldThere, same-gathering, continued-possible}
use Rattle.xor_target.proofs.Handing.{ok-so}
use Rattle.xor_target.proofs.logical_unit.LogicalUnit.gathered.Goals as goal

pub finish-requires-clause-possible : goal.finish-requires-clause-possible
finish-requires-clause-possible g c =
    let disk = c.args.self.now.logged.disk in
    let bytes = c.args.bytes.now in
    let gathering = c.in-Some.gathering in
    let found = rw c.unwrap-waiting.ensures at c.of.ensures in
    let same : c.requires.gathering ≡ gathering =
    same-gathering c.args.owner c.args.self.now.waiting.list c.requires.waiting c.unwrap-waiting.result.now c.requires.gathering gathering c.requires.waits c.requires.gathers found c.in-Some.is in
    let under_way = subst (λ (x : GatheringState). IsUnderWay disk.block disk.rows x) same c.requires.under_way in
    let long = subst (λ (x : GatheringState). length bytes ≡ size x.gather) same c.requires.size in
    let there = subst (λ (x : GatheringState). IsHeldThere disk x) same (record { free = c.requires.free; room = c.requires.room }) in
    subst (λ (x : Admitted). IsPossible disk c.in_ok-order.order x.command) (sym c.admitted-admitted.ensures)
    (subst (λ (o : Order). IsPossible disk o gathering.admitted.command) (sym c.in_ok-order.ensures) (continued-possible disk gathering c.in_ok-made.made bytes c.args.seen under_way long there))

pub returns-in_default-next-clause-continued : goal.returns-in_default-next-clause-continued
returns-in_default-next-clause-continued g c =
    let never = g.M.Medium.NEVER_FAILS in
    let self = c.args.self.now in
    let owner = c.args.owner in
    let bytes = c.args.bytes.now in
    let made = c.args.made.now in
    let seen = c.args.seen in
    let new = c.finish.new.self in
    let waiting = c.unwrap-waiting.result.now in
    let gathering = c.in-Some.gathering in
    let order = done_order gathering (waiting.made ++ made) bytes seen in
    let found = rw c.unwrap-waiting.ensures at c.of.ensures in
    let same : c.requires.gathering ≡ gathering =
    same-gathering owner self.waiting.list c.requires.waiting waiting c.requires.gathering gathering c.requires.waits c.requires.gathers found c.in-Some.is in
    let own : gathering.order.owner ≡ owner = ap (λ (x : GatheringState). x.order.owner) (sym same) ∙ c.requires.own in
    let finishes : Order → Admitted → List At → Answer → Type 0 =
    λ o admitted names a. (targets : ℕ) (first page : XorPage) → IsFinished never (state_of targets first page self.waiting.list self.logged.disk self.logged.log) o admitted.command names a
    (state_of targets first page new.waiting.list new.logged.disk new.logged.log) in
    ok-so c.finish.result (λ a. finishes c.in_ok-order.order c.admitted-admitted.result c.in_ok-made.made a)
    (λ (a : Answer). (targets : ℕ) (first page : XorPage) → HasContinued never (state_of targets first page self.waiting.list self.logged.disk self.logged.log) owner bytes made seen a
    (state_of targets first page new.waiting.list new.logged.disk new.logged.log))
    c.finish.ensures.finished
    (λ a h targets first page.
    let t = state_of targets first page self.waiting.list self.logged.disk self.logged.log in
    let after = state_of targets first page new.waiting.list new.logged.disk new.logged.log in
    let ends = subst (λ (o : Order). finishes o gathering.admitted (waiting.made ++ made) a)
    (c.in_ok-order.ensures ∙ ap (λ (names : List At). done_order gathering names bytes seen) c.in_ok-made.ensures)
    (subst (λ (x : Admitted). finishes c.in_ok-order.order x (waiting.made ++ made) a) c.admitted-admitted.ensures
    (subst (λ (names : List At). finishes c.in_ok-order.order c.admitted-admitted.result names a) c.in_ok-made.ensures h)) targets first page in
    let acted = subst (λ (o : ℕ). IsActed never (no_longer t o) order gathering.admitted.command ends.done after) own ends.acted in
    record {
      waiting = waiting;
      gathering = gathering;
      waits = found;
      gathers = c.in-Some.is;
      own = own;
      continued = Finishes ends.done (sym c.next.ensures ∙ c.in_default-next.is) acted ends.says;
    })

pub returns-clause-continued : goal.returns-clause-continued
returns-clause-continued g c = λ targets first page.
    let self = c.args.self.now in
    let log = self.logged.log in
    let owner = c.args.owner in
    let bytes = c.args.bytes.now in
    let seen = c.args.seen in
    let waiting = c.unwrap-waiting.result.now in
    let gathering = c.in-Some.gathering in
    let source = c.in-Some-next.source in
    let names = waiting.made ++ c.args.made.now in
    let found = rw c.unwrap-waiting.ensures at c.of.ensures in
    let same : c.requires.gathering ≡ gathering =
    same-gathering owner self.waiting.list c.requires.waiting waiting c.requires.gathering gathering c.requires.waits c.requires.gathers found c.in-Some.is in
    let request : c.in_ok-request.request ≡ read_request log.number (newest_stamp log.past seen) gathering source =
    c.in_ok-request.ensures ∙ ap (λ (n : ℕ). read_request n c.newest.result gathering source) c.number.ensures.number
    ∙ ap (λ (s : ℕ). read_request log.number s gathering source) c.newest.ensures in
    record {
      waiting = waiting;
      gathering = gathering;
      waits = found;
      gathers = c.in-Some.is;
      own = ap (λ (x : GatheringState). x.order.owner) (sym same) ∙ c.requires.own;
      continued = Asks source (sym c.next.ensures ∙ c.in-Some-next.is)
          (ap (λ (r : PeerRequest). answers.Peer r c.in_ok-made.made) request
          ∙ ap (λ (n : List At). answers.Peer (read_request log.number (newest_stamp log.past seen) gathering source) n) c.in_ok-made.ensures)
          (ap (λ (ws : List Waiting). state_of targets first page ws self.logged.disk log)
          (c.accept.ensures ∙ ap (λ (n : List At). with_source owner n bytes self.waiting.list) (c.in_ok-kept.ensures ∙ c.in_ok-made.ensures)));
    }
