use Rattle.std.proofs.Common.{[], ℕ, List, ap, ◌∙◌, subst}
use Rattle.array_journal.specs.declared.at.At.{At}
use Rattle.xor_mode_page.specs.declared.pages.XorPage.{XorPage}
use Rattle.xor_target.specs.declared.admission.Admitted.{Admitted}
use Rattle.xor_target.specs.declared.answer.Answer.{Answer}
use Rattle.xor_target.specs.declared.order.Order.{Order}
use Rattle.xor_target.specs.Answers.{IsActed}
use Rattle.xor_target.specs.Gathers.{done_order}
use Rattle.xor_target.specs.State.{state_of}
use Rattle.xor_target.proofs.Handing.{ok-so}
use Rattle.xor_target.proofs.logical_unit.LogicalUnit.do_alone.Goals as goal

pub returns-clause-acted : goal.returns-clause-acted
returns-clause-acted g c =
    let never = g.M.Medium.NEVER_FAILS in
    let self = c.args.self.now in
    let new = c.act.new.self in
    let gathering = c.args.gathering.now in
    let acts : Order → Admitted → Answer → Type 0 =
    λ order admitted answer. (targets : ℕ) (first page : XorPage) → IsActed never (state_of targets first page self.waiting.list self.logged.disk self.logged.log) order admitted.command answer
    (state_of targets first page new.waiting.list new.logged.disk new.logged.log) in
    ok-so c.act.result (λ a. acts c.in_ok-order.order c.admitted.result a) (λ a. acts (done_order gathering [] [] c.args.stamp) gathering.admitted a) c.act.ensures.acted
    (λ a h. subst (λ (x : Admitted). acts (done_order gathering [] [] c.args.stamp) x a) c.admitted.ensures
    (subst (λ (o : Order). acts o c.admitted.result a) (c.in_ok-order.ensures ∙ ap (λ (names : List At). done_order gathering names [] c.args.stamp) c.new.ensures) h))
