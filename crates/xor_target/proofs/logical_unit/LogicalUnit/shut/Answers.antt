use Rattle.std.proofs.Common.{rules, ◌≡◌, ℕ, List, sym, subst}
use Rattle.xor_mode_page.specs.declared.pages.XorPage.{XorPage}
use Rattle.xor_target.specs.declared.waiting.Waiting.{Waiting}
use Rattle.xor_target.specs.State.{state_of}
use Rattle.xor_target.specs.Befalls.{IsShut}
use Rattle.xor_target.proofs.logical_unit.LogicalUnit.shut.Goals as goal

pub returns-clause-shut : goal.returns-clause-shut
returns-clause-shut g c = λ targets first page.
    let self = c.args.self.now in
    let new = c.shut.new.self in
    subst (λ (ws : List Waiting). IsShut (state_of targets first page self.waiting.list self.logged.disk self.logged.log) c.args.owner c.args.opened c.args.seen
    c.in_ok-answer.answer (state_of targets first page ws new.disk new.log)) (sym c.discard_gathering.ensures)
    (c.in_ok-answer.ensures.shut targets first page self.waiting.list)

pub returns-in_err-answer-clause-memory : goal.returns-in_err-answer-clause-memory
returns-in_err-answer-clause-memory g c =
    let self = c.args.self.now in
    let new = c.shut.new.self in
    let told : (targets : ℕ) (first page : XorPage) → state_of targets first page self.waiting.list new.disk new.log
    ≡ state_of targets first page self.waiting.list self.logged.disk self.logged.log =
    λ targets first page. c.in_err-answer.ensures.memory targets first page self.waiting.list in
    search (rules, c.from_residual.ensures, told)
