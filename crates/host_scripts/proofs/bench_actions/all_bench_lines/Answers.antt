use Rattle.std.proofs.Common.{ℕ, List, Ok, subst, ◌<◌, ◌+◌, ◌≡◌, ◌++◌, ◌∷◌, [], length, length-append, arith}
use Rattle.std.proofs.lemmas.Result.{err_from_is_err_and}
use Rattle.host_scripts.specs.declared.bench.BenchLine.{BenchLine}
use Rattle.host_scripts.specs.Reading.{Fails}
use Rattle.host_scripts.specs.BenchReading.{bench_line_at, bench_lines_at}
use Rattle.host_scripts.proofs.Loops.{is-empty, is-filled, each-read, each-broken, each-done}
use Rattle.host_scripts.proofs.BenchAgain.{line-shortens-bench}
use Rattle.host_scripts.proofs.bench_actions.all_bench_lines.Goals as goal

pub returns-in_err-asked : goal.returns-in_err-asked
returns-in_err-asked c =
    let p = err_from_is_err_and c.from_residual.result c.from_residual.ensures.1 in
    let long : 0 < length c.loop-rest.rest.now = is-filled (length c.loop-rest.rest.now) c.is_empty.result c.is_empty.ensures c.loop-rest-test.true in
    let value = subst (λ (k : ℕ). Fails {Y = BenchLine × List ℕ} c.in_err-asked.field-0.0 (bench_line_at c.args.targets (c.args.first + k) c.loop-rest.rest.now)) c.len.ensures c.in_err-asked.ensures.value in
    rw (p.1, p.2) (each-broken (bench_line_at c.args.targets) c.in_err-asked.field-0.0 c.loop-rest.lines (c.args.first + length c.loop-rest.lines) c.loop-rest.rest.now (bench_lines_at c.args.targets (length c.args.bytes.now) c.args.first c.args.bytes.now) long value c.loop-rest.invariant.so_far)

pub loop-rest-preserved : goal.loop-rest-preserved
loop-rest-preserved c =
    let long : 0 < length c.loop-rest.rest.now = is-filled (length c.loop-rest.rest.now) c.is_empty.result c.is_empty.ensures c.loop-rest-test.true in
    let shorter : length c.in_ok-asked.after.now < length c.loop-rest.rest.now = c.in_ok-asked.ensures.shorter in
    let value : bench_line_at c.args.targets (c.args.first + length c.loop-rest.lines) c.loop-rest.rest.now ≡ Ok (c.in_ok-asked.asked, c.in_ok-asked.after.now) = rw (← c.len.ensures) c.in_ok-asked.ensures.value in
    let one : length (c.loop-rest.lines ++ c.in_ok-asked.asked ∷ []) ≡ length c.loop-rest.lines + 1 = length-append c.loop-rest.lines (c.in_ok-asked.asked ∷ []) in
    let number : c.args.first + length (c.loop-rest.lines ++ c.in_ok-asked.asked ∷ []) ≡ c.args.first + length c.loop-rest.lines + 1 = omega (arith, one) in
    rw c.in_ok-push.ensures.ok (record {
      so_far = rw number (each-read (bench_line_at c.args.targets) (line-shortens-bench c.args.targets) c.loop-rest.lines (c.args.first + length c.loop-rest.lines) c.loop-rest.rest.now c.in_ok-asked.asked c.in_ok-asked.after.now (bench_lines_at c.args.targets (length c.args.bytes.now) c.args.first c.args.bytes.now) long value c.loop-rest.invariant.so_far);
      fewer = omega (arith, one);
    })

pub returns : goal.returns
returns c = each-done (bench_line_at c.args.targets) c.loop-rest.lines (c.args.first + length c.loop-rest.lines) c.loop-rest.rest.now (bench_lines_at c.args.targets (length c.args.bytes.now) c.args.first c.args.bytes.now) (is-empty (length c.loop-rest.rest.now) c.is_empty.result c.is_empty.ensures c.loop-rest-test.false) c.loop-rest.invariant.so_far
