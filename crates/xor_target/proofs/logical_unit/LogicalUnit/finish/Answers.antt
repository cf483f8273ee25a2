use Rattle.std.proofs.Common.{rules, ◌≡◌, ◌++◌, ◌∷◌, [], ℕ, List, ap, sym, ◌∙◌, subst}
use Rattle.xor_mode_page.specs.declared.pages.XorPage.{XorPage}
use Rattle.array_journal.specs.declared.at.At.{At}
use Rattle.xor_target.specs.declared.waiting.Waiting.{Waiting}
use Rattle.xor_target.specs.Acts.{waiting_left}
use Rattle.xor_target.specs.Answers.{IsActed}
use Rattle.xor_target.specs.Resumes.{renamed}
use Rattle.xor_target.specs.State.{state_of}
use Rattle.xor_target.specs.Waits.{without_owner}
use Rattle.xor_target.proofs.Continued.{renamed-with}
use Rattle.xor_target.proofs.logical_unit.LogicalUnit.finish.Goals as goal

pub returns-in_err-answer-clause-memory : goal.returns-in_err-answer-clause-memory
returns-in_err-answer-clause-memory g c =
    let self = c.args.self.now in
    let new = c.act.new.self in
    let told : (targets : ℕ) (first page : XorPage) → state_of targets first page self.waiting.list new.disk new.log
    ≡ state_of targets first page self.waiting.list self.logged.disk self.logged.log =
    λ targets first page. c.in_err-answer.ensures.memory targets first page self.waiting.list in
    search (rules, c.from_residual-in_err-answer.ensures, told)

pub returns-clause-finished : goal.returns-clause-finished
returns-clause-finished g c = λ targets first page.
    let never = g.M.Medium.NEVER_FAILS in
    let self = c.args.self.now in
    let order = c.args.order in
    let command = c.args.admitted.now.command in
    let a = c.in_ok-answer.answer in
    let new = c.act.new.self in
    let others = without_owner order.owner self.waiting.list in
    let before = state_of targets first page others self.logged.disk self.logged.log in
    let list = c.leave.ensures ∙ ap (λ (ws : List Waiting). waiting_left a ws) c.end.ensures.rest in
    let acted = c.in_ok-answer.ensures.acted targets first page others in
    let names = c.in_ok-push.ensures.ok ∙ ap (λ (n : At). c.args.made ++ n ∷ []) c.in_ok-name.ensures in
    record {
      done = a;
      acted = subst (λ (ws : List Waiting). IsActed never before order command a (state_of targets first page ws new.disk new.log)) (sym list) acted;
      says =
          c.named.ensures ∙ ap (λ (n : List At). renamed n a) names
          ∙ renamed-with never before order command a (state_of targets first page (waiting_left a others) new.disk new.log) c.args.made acted;
    }
