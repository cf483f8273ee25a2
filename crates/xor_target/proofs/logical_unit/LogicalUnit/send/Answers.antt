use Rattle.std.proofs.Common.{rules, ◌≡◌, ℕ, ap, sym, ◌∙◌, subst, List}
use Rattle.xor_mode_page.specs.declared.pages.XorPage.{XorPage}
use Rattle.xor_target.specs.declared.answer.Answer.{Answer}
use Rattle.xor_target.specs.declared.logged_disk.LoggedDisk.{LoggedDisk}
use Rattle.xor_target.specs.declared.waiting.Waiting.{Waiting}
use Rattle.xor_target.specs.Answers.{IsSent}
use Rattle.xor_target.specs.Logs.{drops_next}
use Rattle.xor_target.specs.Sending.{sent_answer, waiting_sent}
use Rattle.xor_target.specs.State.{TargetState, state_of}
use Rattle.xor_target.proofs.SentDeltas.{sent-of}
use Rattle.xor_target.proofs.logical_unit.LogicalUnit.send.Goals as goal

pub returns-in_err-answer-clause-memory : goal.returns-in_err-answer-clause-memory
returns-in_err-answer-clause-memory g c =
    let self = c.args.self.now in
    let new = c.act.new.self in
    let told : (targets : ℕ) (first page : XorPage) → state_of targets first page c.reserve.new.self.list new.disk new.log
    ≡ state_of targets first page self.waiting.list self.logged.disk self.logged.log =
    λ targets first page. c.in_err-answer.ensures.memory targets first page c.reserve.new.self.list
    ∙ ap (λ (ws : List Waiting). state_of targets first page ws self.logged.disk self.logged.log) c.in_ok-reserve.ensures.same in
    search (rules, c.from_residual-in_err-answer.ensures, told)

pub returns-clause-sent : goal.returns-clause-sent
returns-clause-sent g c = λ targets first page.
    let never = g.M.Medium.NEVER_FAILS in
    let self = c.args.self.now in
    let order = c.args.order.now in
    let command = c.args.admitted.now.command in
    let to = c.args.secondary in
    let s = c.in_ok-sending.sending in
    let a = c.in_ok-answer.answer in
    let new = c.act.new.self in
    let last = c.sent.new.self in
    let dropped = c.drops_next-dropped.ensures in
    let before = state_of targets first page self.waiting.list self.logged.disk self.logged.log in
    let drop = drops_next self.logged.log.number self.logged.log.past in
    let waiting = waiting_sent self.waiting.list order.owner s drop a in
    let after = state_of targets first page waiting new.disk new.log in
    let says : c.sent.result ≡ sent_answer s drop a = c.sent.ensures.says ∙ ap (λ d. sent_answer s d a) dropped in
    let list : last.waiting.list ≡ waiting =
    c.sent.ensures.waits ∙ ap (λ (ws : List Waiting). waiting_sent ws order.owner s c.drops_next-dropped.result a) c.in_ok-reserve.ensures.same
    ∙ ap (λ d. waiting_sent self.waiting.list order.owner s d a) dropped in
    let state : state_of targets first page last.waiting.list last.logged.disk last.logged.log ≡ after =
    ap (λ (l : LoggedDisk _). state_of targets first page last.waiting.list l.disk l.log) c.sent.ensures.same
    ∙ ap (λ (ws : List Waiting). state_of targets first page ws new.disk new.log) list in
    subst (λ (t : TargetState). IsSent never before order command to.row to.count to.target c.sent.result t) (sym state)
    (subst (λ (x : Answer). IsSent never before order command to.row to.count to.target x after) (sym says)
    (sent-of never targets first page self.waiting.list self.logged.disk new.disk self.logged.log new.log order command to.row to.count to.target s a
    (record { name = c.in_ok-sending.ensures.name; kept = c.in_ok-sending.ensures.kept; request = c.in_ok-sending.ensures.request })
    (c.in_ok-answer.ensures.acted targets first page self.waiting.list)))
