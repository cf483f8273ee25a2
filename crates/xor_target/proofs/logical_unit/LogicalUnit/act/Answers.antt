use Rattle.std.proofs.Common.{rules, ◌≡◌, ℕ, List, sym, subst}
use Rattle.xor_mode_page.specs.declared.pages.XorPage.{XorPage}
use Rattle.xor_target.specs.declared.waiting.Waiting.{Waiting}
use Rattle.xor_target.specs.State.{state_of}
use Rattle.xor_target.specs.Answers.{IsActed}
use Rattle.xor_target.proofs.logical_unit.LogicalUnit.act.Goals as goal

pub returns-clause-acted : goal.returns-clause-acted
returns-clause-acted g c = λ targets first page.
    let self = c.args.self.now in
    let new = c.act.new.self in
    subst (λ (ws : List Waiting). IsActed g.M.Medium.NEVER_FAILS (state_of targets first page self.waiting.list self.logged.disk self.logged.log) c.args.order.now
    c.args.admitted.now.command c.in_ok-answer.answer (state_of targets first page ws new.disk new.log)) (sym c.leave.ensures)
    (c.in_ok-answer.ensures.acted targets first page self.waiting.list)

pub returns-in_err-answer-clause-memory : goal.returns-in_err-answer-clause-memory
returns-in_err-answer-clause-memory g c =
    let self = c.args.self.now in
    let new = c.act.new.self in
    let told : (targets : ℕ) (first page : XorPage) → state_of targets first page self.waiting.list new.disk new.log
    ≡ state_of targets first page self.waiting.list self.logged.disk self.logged.log =
    λ targets first page. c.in_err-answer.ensures.memory targets first page self.waiting.list in
    search (rules, c.from_residual.ensures, told)
