use Rattle.std.proofs.Common.{◌≡◌, ◌<◌, ◌+◌, ℕ, List, Some, ap, sym, subst, ◌∙◌, length, arith, slice_get}
use Rattle.std.proofs.lemmas.Option.{get_or_from_slice_get}
use Rattle.host_scripts.specs.declared.script.Action.{Action}
use Rattle.host_scripts.specs.declared.script.Call.{Call}
use Rattle.array_control.specs.HostCalls.{HostCalls, left_of, IsPlace}
use Rattle.array_control.proofs.HostCalls.{other-place, own-here}
use Rattle.array_control.proofs.host_run.HostRun.come_to_call.Goals as goal

pub invariant_of-self : goal.invariant_of-self
invariant_of-self c =
    let same : c.as_slice-calls.result.now ≡ c.self.inside.calls.now = c.as_slice-calls.ensures in
    let before : IsPlace c.self.inside.host c.self.inside.next c.as_slice-calls.result.now (length c.self.inside.replies.items) =
    subst (λ (l : List Call). IsPlace c.self.inside.host c.self.inside.next l (length c.self.inside.replies.items)) (sym same) c.self.invariant in
    let found = c.in-Some.ensures in
    let within : c.in-Some.place < length c.as_slice-calls.result.now = found.1 in
    subst (λ (l : List Call). IsPlace c.self.inside.host c.in-Some.place l (length c.self.inside.replies.items)) same
    (other-place c.self.inside.host c.self.inside.next c.in-Some.place (length c.self.inside.replies.items) c.as_slice-calls.result.now before
    (omega (arith, within)) found.4)

pub returns-in-Some-clause-next : goal.returns-in-Some-clause-next
returns-in-Some-clause-next c =
    let same : c.as_slice-calls.result.now ≡ c.self.inside.calls.now = c.as_slice-calls.ensures in
    let before : IsPlace c.self.inside.host c.self.inside.next c.as_slice-calls.result.now (length c.self.inside.replies.items) =
    subst (λ (l : List Call). IsPlace c.self.inside.host c.self.inside.next l (length c.self.inside.replies.items)) (sym same) c.self.invariant in
    let found = c.in-Some.ensures in
    ap (λ (x : Call). Some (c.in-Some.place + 1, x.action))
    (get_or_from_slice_get c.as_slice-calls.result.now c.in-Some.place found.0 c.index-calls-place.result found.2)
    ∙ ap (λ (l : List (ℕ × Action)). slice_get l 0)
    (sym (own-here c.self.inside.host c.in-Some.place c.as_slice-calls.result.now found.0 found.2 found.3) ∙ sym found.4 ∙ before.left)
    ∙ ap (λ (l : List Call). slice_get (left_of (record { host = c.self.inside.host; calls = l; replies = c.self.inside.replies.items; current = c.self.inside.current })) 0) same
    ∙ ap (λ (r : HostCalls). slice_get (left_of r) 0) c.self.view_is
