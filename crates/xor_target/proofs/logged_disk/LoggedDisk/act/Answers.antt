use Rattle.std.proofs.Common.{rules, ◌≡◌, ◌+◌, ap, ◌∙◌, subst, ◌∷◌, [], Option}
use Rattle.array_journal.specs.declared.at.At.{At}
use Rattle.array_journal.specs.declared.event.Event.TheVariants as events
use Rattle.array_journal.specs.Lives.{life_of}
use Rattle.array_journal.specs.Owners.{discarded_at}
use Rattle.xor_target.specs.declared.act.BlockAct.{BlockAct}
use Rattle.xor_target.specs.declared.act.ActStop.{ActStop}
use Rattle.xor_target.specs.declared.answer.Answer.TheVariants.{Good, Gone}
use Rattle.xor_target.specs.declared.answer.GoneAt.{GoneAt}
use Rattle.xor_target.specs.Admission.{row_of, count_of}
use Rattle.xor_target.specs.Logs.{Logged}
use Rattle.xor_target.specs.Waits.{without_gatherings}
use Rattle.xor_target.specs.State.{TargetState, state_of}
use Rattle.xor_target.specs.Answers.{IsDone, IsStruck, Does, Fails, next_name}
use Rattle.xor_target.specs.Acts.{IsStopped}
use Rattle.xor_target.proofs.Acting.{same-state, performed-done, failed-struck}
use Rattle.xor_target.proofs.logged_disk.LoggedDisk.act.Goals as goal

pub returns-in-Ok-clause-acted : goal.returns-in-Ok-clause-acted
returns-in-Ok-clause-acted g c targets first page waiting =
    let order = c.args.order.now in
    let command = c.args.admitted.now.command in
    let self = c.args.self.now in
    let mid = c.prepare.new.self in
    let after = c.perform.new.self in
    let prepared = c.in_ok-ready.ensures in
    let act : BlockAct = record { cdb = c.args.admitted.now.cdb; row = c.unwrap_or.result; count = c.unwrap_or-2.result; stamp = c.in_ok-ready.ready.stamp } in
    let same = same-state targets first page waiting self.disk mid.disk self.log mid.log prepared.disk prepared.past prepared.number in
    let row : act.row ≡ row_of command = search rules in
    let count : act.count ≡ count_of command = search rules in
    let done = performed-done targets first page waiting mid.disk after.disk mid.log after.log order command act c.in-Ok.bytes
    (record { row = row; count = count }) c.requires.sent prepared.ready.stamp c.in-Ok.ensures.done c.in-Ok.ensures.whole c.in-Ok.ensures.fills in
    Does c.in-Ok.bytes (subst (λ (t : TargetState). IsDone t order command c.in-Ok.bytes (state_of targets first page waiting after.disk after.log)) same done)
    (ap (λ names. Good c.in-Ok.bytes names)
    (prepared.ready.made ∙ ap (λ s. record { stamp = s; lock = mid.log.number + 1 } ∷ []) prepared.ready.stamp
    ∙ ap (λ (t : TargetState). next_name t order.stamp ∷ []) same))

pub returns-in-Err-Failed-clause-acted : goal.returns-in-Err-Failed-clause-acted
returns-in-Err-Failed-clause-acted g c targets first page waiting =
    let order = c.args.order.now in
    let self = c.args.self.now in
    let mid = c.prepare.new.self in
    let stopped = c.perform.new.self in
    let after = c.fail-lost.new.self in
    let prepared = c.in_ok-ready.ensures in
    let ready = c.in_ok-ready.ready in
    let never = g.M.Medium.NEVER_FAILS in
    let same = same-state targets first page waiting self.disk mid.disk self.log mid.log prepared.disk prepared.past prepared.number in
    let stop = subst (λ (s : ActStop). IsStopped never mid.disk mid.log stopped.disk stopped.log s) c.in-Err-Failed.field-0-is c.in-Err-Failed.ensures.stopped in
    let number = c.fail-lost.ensures.number ∙ ap (λ (l : Logged). l.number) stop.2 in
    let struck = failed-struck never targets first page waiting mid.disk stopped.disk after.disk mid.log after.log order.stamp ready.stamp
    ready.owners stop.0 stop.1 c.fail-lost.ensures.disk
    (c.fail-lost.ensures.past
    ∙ ap (λ (l : Logged). record { stamp = ready.stamp; lock = l.number + 1; event = events.Gone (life_of l.number l.past) 0 ready.owners } ∷ l.past) stop.2)
    number prepared.ready.stamp prepared.ready.owners in
    let loss = discarded_at after.log.number order.owner after.log.past in
    Fails (subst (λ (t : TargetState). IsStruck never t order.stamp (state_of targets first page (without_gatherings waiting) after.disk after.log)) same struck)
    (ap (λ (l : Option At). Gone c.fail-lost.result.at c.fail-lost.result.life l) c.discarded_at.ensures
    ∙ ap (λ (x : GoneAt). Gone x.at x.life loss) c.fail-lost.ensures.says ∙ ap (λ (l : Logged). Gone (record { stamp = ready.stamp; lock = l.number + 1 }) (life_of l.number l.past) loss) stop.2
    ∙ ap (λ s. Gone (record { stamp = s; lock = mid.log.number + 1 }) (life_of mid.log.number mid.log.past) loss) prepared.ready.stamp
    ∙ ap (λ (t : TargetState). Gone (next_name t order.stamp) (life_of t.number t.past) loss) same
    ∙ ap (λ n. Gone (next_name (state_of targets first page waiting self.disk self.log) order.stamp) (life_of self.log.number self.log.past) (discarded_at n order.owner after.log.past))
    (number ∙ prepared.number))
