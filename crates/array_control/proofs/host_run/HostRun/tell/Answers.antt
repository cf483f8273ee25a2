use Rattle.std.proofs.Common.{◌≡◌, ◌<◌, ◌≤◌, ◌+◌, ◌∷◌, [], ℕ, List, ap, sym, subst, ◌∙◌, length, drop}
use Rattle.std.proofs.lemmas.List.{length-append}
use Rattle.host_scripts.specs.declared.script.Call.{Call}
use Rattle.array_control.specs.HostCalls.{HostCalls, calls_from, left_of, IsPlace}
use Rattle.array_control.proofs.HostCalls.{told-place}
use Rattle.array_control.proofs.host_run.HostRun.tell.Goals as goal

pub invariant_of-self-2 : goal.invariant_of-self-2
invariant_of-self-2 c =
    let same : c.as_slice.result.now ≡ c.self.inside.calls.now = c.as_slice.ensures in
    let some : 0 < length (left_of (record { host = c.self.inside.host; calls = c.self.inside.calls.now; replies = c.self.inside.replies.items; current = c.self.inside.current })) =
    subst (λ (r : HostCalls). 0 < length (left_of r)) (sym c.self.view_is) c.requires in
    let behind : IsPlace c.self.inside.host c.place_behind-next.result c.self.inside.calls.now (length c.self.inside.replies.items + 1) =
    told-place c.self.inside.host c.self.inside.next c.place_behind-next.result (length c.self.inside.replies.items) c.self.inside.calls.now
    c.self.invariant some
    (subst (λ (l : List Call). c.place_behind-next.result ≤ length l) same c.place_behind-next.ensures.in_calls)
    (subst (λ (l : List Call). calls_from c.self.inside.host (c.place_behind-next.result + 1) (drop c.place_behind-next.result l)
    ≡ drop 1 (calls_from c.self.inside.host (c.self.inside.next + 1) (drop c.self.inside.next l))) same c.place_behind-next.ensures.left) in
    subst (λ (n : ℕ). IsPlace c.self.inside.host c.place_behind-next.result c.self.inside.calls.now n)
    (sym (ap length c.in_ok-push.ensures.items ∙ length-append c.self.inside.replies.items (c.args.reply ∷ []))) behind
