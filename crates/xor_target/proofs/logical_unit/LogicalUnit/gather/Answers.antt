use Rattle.std.proofs.Common.{◌≡◌, ◌++◌, [], ◌∷◌, ℕ, Some, List, ap, sym, ◌∙◌, subst}
use Rattle.sbc_cdbs.specs.declared.commands.Command.{Command}
use Rattle.xor_mode_page.specs.declared.pages.XorPage.{XorPage}
use Rattle.xor_target.specs.declared.answer.Answer.{Answer}
use Rattle.xor_target.specs.declared.answer.Answer.TheVariants as answers
use Rattle.xor_target.specs.declared.logged_disk.LoggedDisk.{LoggedDisk}
use Rattle.xor_target.specs.declared.order.Order.{Order}
use Rattle.xor_target.specs.declared.waiting.Waiting.{Waiting}
use Rattle.xor_target.specs.Answers.{IsActed, IsGathered, Alone, Begins, newest_stamp}
use Rattle.xor_target.specs.Gathers.{IsFirst, done_order, read_request}
use Rattle.xor_target.specs.State.{state_of}
use Rattle.xor_target.proofs.Gatherings.{alone-possible, no-sources}
use Rattle.xor_target.proofs.Handing.{ok-so, ok-with}
use Rattle.xor_target.proofs.logical_unit.LogicalUnit.gather.Goals as goal

pub do_alone-requires-clause-possible : goal.do_alone-requires-clause-possible
do_alone-requires-clause-possible g c =
    let disk = c.args.self.now.logged.disk in
    let order = c.args.order.now in
    let command = c.args.admitted.now.command in
    let gathering = c.in_ok-gathering.gathering in
    let first = subst (λ (b : ℕ). IsFirst b order command gathering) c.block.ensures.value c.in_ok-gathering.ensures in
    alone-possible disk order command gathering order.stamp first c.requires.gathers c.requires.some c.requires.within c.requires.fits c.requires.sized c.requires.free c.requires.room

pub returns-in-Some-clause-gathered : goal.returns-in-Some-clause-gathered
returns-in-Some-clause-gathered g c =
    let never = g.M.Medium.NEVER_FAILS in
    let self = c.args.self.now in
    let order = c.args.order.now in
    let command = c.args.admitted.now.command in
    let gathering = c.in_ok-gathering.gathering in
    let source = c.in-Some.source in
    let new = c.ask_first.new.self in
    let number = self.logged.log.number in
    let request = read_request number (newest_stamp self.logged.log.past order.stamp) gathering source in
    let waits : Waiting = record { owner = gathering.order.owner; made = []; gathering = Some gathering } in
    let first = subst (λ (b : ℕ). IsFirst b order command gathering) c.block.ensures.value c.in_ok-gathering.ensures in
    ok-with c.ask_first.result (λ (a : Answer). a ≡ answers.Peer request [])
    (λ (a : Answer). (targets : ℕ) (one page : XorPage) → IsGathered never (state_of targets one page self.waiting.list self.logged.disk self.logged.log) order command a
    (state_of targets one page new.waiting.list new.logged.disk new.logged.log))
    (new.waiting.list ≡ self.waiting.list ++ waits ∷ []) c.ask_first.ensures.asks c.ask_first.ensures.waits
    (λ a says list targets one page.
    let own : gathering.order.owner ≡ order.owner = ap (λ (o : Order). o.owner) first.of_order in
    let after =
    ap (λ (l : LoggedDisk _). state_of targets one page new.waiting.list l.disk l.log) c.ask_first.ensures.same
    ∙ ap (λ (ws : List Waiting). state_of targets one page ws self.logged.disk self.logged.log)
    (list ∙ ap (λ (o : ℕ). self.waiting.list ++ record { owner = o; made = []; gathering = Some gathering } ∷ []) own) in
    Begins gathering source first (sym c.first.ensures ∙ c.in-Some.is) says after)

pub returns-in-None-clause-gathered : goal.returns-in-None-clause-gathered
returns-in-None-clause-gathered g c =
    let never = g.M.Medium.NEVER_FAILS in
    let self = c.args.self.now in
    let order = c.args.order.now in
    let command = c.args.admitted.now.command in
    let gathering = c.in_ok-gathering.gathering in
    let new = c.do_alone.new.self in
    let first = subst (λ (b : ℕ). IsFirst b order command gathering) c.block.ensures.value c.in_ok-gathering.ensures in
    let acts : Command → Answer → Type 0 =
    λ does a. (targets : ℕ) (one page : XorPage) → IsActed never (state_of targets one page self.waiting.list self.logged.disk self.logged.log) (done_order gathering [] [] order.stamp) does a
    (state_of targets one page new.waiting.list new.logged.disk new.logged.log) in
    ok-so c.do_alone.result (λ a. acts gathering.admitted.command a)
    (λ (a : Answer). (targets : ℕ) (one page : XorPage) → IsGathered never (state_of targets one page self.waiting.list self.logged.disk self.logged.log) order command a
    (state_of targets one page new.waiting.list new.logged.disk new.logged.log))
    c.do_alone.ensures.acted
    (λ a h targets one page.
    Alone gathering first (no-sources gathering.sources (sym c.first.ensures ∙ c.in-None.is)) (subst (λ (does : Command). acts does a) first.of_command h targets one page))
