use Rattle.std.proofs.Common.{◌≡◌, ◌+◌, ◌<◌, ◌∙◌, List, length, get_or, map, reverse, ap, subst, sym}
use Rattle.std.specs.Prelude.{◌↔◌, IsTrue}
use Rattle.host_scripts.specs.declared.script.Call.{Call}
use Rattle.stripe_check.specs.Asked.{IsServed}
use Rattle.host_requests.specs.Requests.{request_of}
use Rattle.stripe_check.specs.Steps as asked
use Rattle.trace_check.specs.declared.asking.entry_steps.Step.{Step}
use Rattle.trace_check.specs.EntrySteps.{step_of}
use Rattle.trace_check.proofs.StepsRead.{marked-steps}
use Rattle.trace_check.proofs.AskedWhole.{served-step}
use Rattle.trace_check.proofs.asking.calls.are_served.Goals as goal

pub loop-place-preserved : goal.loop-place-preserved
loop-place-preserved c =
    let e = c.as_slice-call-items.ensures in
    let place = c.loop-place.place in
    let call = c.call-item.result in
    let script = c.args.script.now in
    let whole = c.args.noted.now in
    let steps = ap (λ (l : List Step). map step_of l) c.of.ensures ∙ c.in_ok-all.ensures.steps (place + 1) ∙ marked-steps (place + 1) (reverse c.args.entry_steps.now) whole c.requires.marked in
    rw c.both-served.ensures
    (served-step script whole script.calls place call c.is_served-here.result c.loop-place.served
    (subst (λ (l : List Call). place < length l) e c.loop-place-test.true)
    (subst (λ (l : List Call). get_or l place call ≡ call) e (sym c.call-item.is))
    (subst (λ (l : List asked.Step). IsTrue c.is_served-here.result ↔ IsServed script whole (request_of script.geometry call.action) l) steps c.is_served-here.ensures) c.loop-place.invariant)
