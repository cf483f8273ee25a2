use Rattle.std.proofs.Common.{rules, ◌≡◌, ℕ, List, Result, sym, subst}
use Rattle.xor_mode_page.specs.declared.pages.XorPage.{XorPage}
use Rattle.array_journal.specs.declared.at.At.{At}
use Rattle.xor_target.specs.declared.answer.GoneAt.{GoneAt}
use Rattle.xor_target.specs.declared.waiting.Waiting.{Waiting}
use Rattle.xor_target.specs.Acts.{IsRenewedAs, IsUnitRenewed}
use Rattle.xor_target.specs.State.{state_of}
use Rattle.std.specs.Prelude.{Err}
use Rattle.xor_target.proofs.logical_unit.LogicalUnit.renew.Goals as goal

pub returns-in_err-made-clause-memory : goal.returns-in_err-made-clause-memory
returns-in_err-made-clause-memory g c =
    let self = c.args.self.now in
    let new = c.renew.new.self in
    let told : (targets : ℕ) (first page : XorPage) → state_of targets first page self.waiting.list new.disk new.log
    ≡ state_of targets first page self.waiting.list self.logged.disk self.logged.log =
    λ targets first page. c.in_err-made.ensures.memory targets first page self.waiting.list in
    search (rules, c.from_residual.ensures, told)

pub returns-in-Ok-clause-renewed : goal.returns-in-Ok-clause-renewed
returns-in-Ok-clause-renewed g c = λ targets first page.
    let self = c.args.self.now in
    let new = c.renew.new.self in
    subst (λ (r : Result (List At) GoneAt). IsRenewedAs g.M.Medium.NEVER_FAILS targets first page self.waiting.list self.logged.disk self.logged.log c.args.call c.args.swap
    c.args.seen new.disk new.log r) c.in-Ok.is (c.in_ok-made.ensures.renewed targets first page self.waiting.list)

pub returns-in-Err-clause-renewed : goal.returns-in-Err-clause-renewed
returns-in-Err-clause-renewed g c = λ targets first page.
    let self = c.args.self.now in
    let new = c.renew.new.self in
    let renewed = subst (λ (r : Result (List At) GoneAt). IsRenewedAs g.M.Medium.NEVER_FAILS targets first page self.waiting.list self.logged.disk self.logged.log c.args.call
    c.args.swap c.args.seen new.disk new.log r) c.in-Err.is (c.in_ok-made.ensures.renewed targets first page self.waiting.list) in
    subst (λ (ws : List Waiting). IsUnitRenewed g.M.Medium.NEVER_FAILS targets first page self.waiting.list self.logged.disk self.logged.log c.args.call c.args.swap c.args.seen
    ws new.disk new.log (Err c.in-Err.gone)) (sym c.discard_gatherings.ensures) renewed
