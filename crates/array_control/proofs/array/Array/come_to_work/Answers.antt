use Rattle.std.proofs.Common.{◌<◌, ℕ, List, Some, None, sym, ap, subst, ◌∙◌, length}
use Rattle.unit_plans.specs.declared.doings.Reply.TheVariants.{Good}
use Rattle.array_control.specs.HostCalls.{HostCalls, left_of, with_reply}
use Rattle.array_control.specs.Turns.{HasComeTo}
use Rattle.array_control.proofs.ComingToWork.{HasPassed, passed-none, next-of_host, passed-told, fewer-left, comes-to_work, comes-to_end}
use Rattle.array_control.proofs.array.Array.come_to_work.Goals as goal

pub loop-next-init : goal.loop-next-init
loop-next-init g c = passed-none _ c.args.run.now c.requires.idle c.requires.hosts

pub first_work-requires-clause-of_host : goal.first_work-requires-clause-of_host
first_work-requires-clause-of_host g c = next-of_host _ c.args.run.now c.loop-next.run c.loop-next.invariant _ (sym c.in-Some.ensures.next)

pub returns-in-Some-first_work : goal.returns-in-Some-first_work
returns-in-Some-first_work g c = λ journal at.
    subst (λ (now : HostCalls). HasComeTo (g.B.Bus.setting c.args.self.now.bus) c.args.run.now now (Some c.in-Some-first_work.work) journal)
    (sym c.in-Some.ensures.same)
    (comes-to_work (g.B.Bus.setting c.args.self.now.bus) c.args.run.now c.loop-next.run c.loop-next.invariant _ (sym c.in-Some.ensures.next)
    c.requires.idle c.in-Some-first_work.work c.in-Some-first_work.ensures journal at)

pub loop-next-smaller : goal.loop-next-smaller
loop-next-smaller g c =
    subst (λ (now : HostCalls). length (left_of now) < length (left_of c.loop-next.run))
    (ap (λ (now : HostCalls). with_reply now (Good c.new-bytes.result)) (sym c.in-Some.ensures.same) ∙ sym c.in_ok-tell.ensures.told)
    (fewer-left _ c.args.run.now c.loop-next.run c.loop-next.invariant _ (sym c.in-Some.ensures.next) (Good c.new-bytes.result))

pub loop-next-preserved : goal.loop-next-preserved
loop-next-preserved g c =
    subst (HasPassed _ c.args.run.now)
    (ap (λ (bytes : List ℕ). with_reply c.loop-next.run (Good bytes)) (sym c.new-bytes.ensures)
    ∙ ap (λ (now : HostCalls). with_reply now (Good c.new-bytes.result)) (sym c.in-Some.ensures.same) ∙ sym c.in_ok-tell.ensures.told)
    (passed-told _ c.args.run.now c.loop-next.run c.loop-next.invariant _ (sym c.in-Some.ensures.next) c.in_default-first_work.ensures)

pub returns : goal.returns
returns g c = λ journal at.
    subst (λ (now : HostCalls). HasComeTo (g.B.Bus.setting c.args.self.now.bus) c.args.run.now now None journal) (sym c.in_default.ensures.same)
    (comes-to_end (g.B.Bus.setting c.args.self.now.bus) c.args.run.now c.loop-next.run c.loop-next.invariant (sym c.in_default.ensures.next) journal at)
