use Rattle.std.proofs.Common.{ℕ, List, Ok, subst, ◌<◌, ◌+◌, ◌≡◌, ◌++◌, ◌∷◌, [], length, length-append, arith}
use Rattle.std.proofs.lemmas.Result.{err_from_is_err_and}
use Rattle.host_scripts.specs.declared.script.Call.{Call}
use Rattle.host_scripts.specs.Reading.{Fails, call_at, calls_at}
use Rattle.host_scripts.proofs.Loops.{is-empty, is-filled, call-shortens, each-read, each-broken, each-done}
use Rattle.host_scripts.proofs.lines.call_lines.Goals as goal

pub returns-in_err-call-clause-value : goal.returns-in_err-call-clause-value
returns-in_err-call-clause-value c =
    let p = err_from_is_err_and c.from_residual.result c.from_residual.ensures.1 in
    let long : 0 < length c.loop-rest.rest.now = is-filled (length c.loop-rest.rest.now) c.is_empty.result c.is_empty.ensures c.loop-rest-test.true in
    let value = subst (λ (k : ℕ). Fails {Y = Call × List ℕ} c.in_err-call.field-0.0 (call_at c.args.geometry.now c.args.hosts (c.args.first + k) c.loop-rest.rest.now)) c.len.ensures c.in_err-call.ensures.value in
    rw (p.1, p.2) (each-broken (call_at c.args.geometry.now c.args.hosts) c.in_err-call.field-0.0 c.loop-rest.calls (c.args.first + length c.loop-rest.calls) c.loop-rest.rest.now (calls_at c.args.geometry.now c.args.hosts (length c.args.bytes.now) c.args.first c.args.bytes.now) long value c.loop-rest.invariant.so_far)

pub loop-rest-preserved : goal.loop-rest-preserved
loop-rest-preserved c =
    let long : 0 < length c.loop-rest.rest.now = is-filled (length c.loop-rest.rest.now) c.is_empty.result c.is_empty.ensures c.loop-rest-test.true in
    let shorter : length c.in_ok-call.after.now < length c.loop-rest.rest.now = c.in_ok-call.ensures.shorter in
    let value : call_at c.args.geometry.now c.args.hosts (c.args.first + length c.loop-rest.calls) c.loop-rest.rest.now ≡ Ok (c.in_ok-call.call, c.in_ok-call.after.now) = rw (← c.len.ensures) c.in_ok-call.ensures.value in
    let one : length (c.loop-rest.calls ++ c.in_ok-call.call ∷ []) ≡ length c.loop-rest.calls + 1 = length-append c.loop-rest.calls (c.in_ok-call.call ∷ []) in
    let number : c.args.first + length (c.loop-rest.calls ++ c.in_ok-call.call ∷ []) ≡ c.args.first + length c.loop-rest.calls + 1 = omega (arith, one) in
    rw c.in_ok-push.ensures.ok (record {
      so_far = rw number (each-read (call_at c.args.geometry.now c.args.hosts) (call-shortens c.args.geometry.now c.args.hosts) c.loop-rest.calls (c.args.first + length c.loop-rest.calls) c.loop-rest.rest.now c.in_ok-call.call c.in_ok-call.after.now (calls_at c.args.geometry.now c.args.hosts (length c.args.bytes.now) c.args.first c.args.bytes.now) long value c.loop-rest.invariant.so_far);
      fewer = omega (arith, one);
    })

pub returns-clause-value : goal.returns-clause-value
returns-clause-value c = each-done (call_at c.args.geometry.now c.args.hosts) c.loop-rest.calls (c.args.first + length c.loop-rest.calls) c.loop-rest.rest.now (calls_at c.args.geometry.now c.args.hosts (length c.args.bytes.now) c.args.first c.args.bytes.now) (is-empty (length c.loop-rest.rest.now) c.is_empty.result c.is_empty.ensures c.loop-rest-test.false) c.loop-rest.invariant.so_far
