use Rattle.std.proofs.Common.{◌<◌, ◌≤◌, ◌+◌, length, sym, subst, ◌∙◌, arith}
use Rattle.bench_runs.proofs.Done.{GoesOn, line-done, all-done}
use Rattle.bench_runs.proofs.rows.serve_all.Goals as goal

pub loop-place-preserved : goal.loop-place-preserved
loop-place-preserved c =
    let start = c.args.row.now in
    let line = c.index-lines-place.result in
    let said = c.in_ok-serve.ensures.told in
    let place = c.loop-place.place in
    let below : place < length c.args.lines.now = omega arith in
    let goes : GoesOn start c.args.lines.now (place + 1) c.serve.new.row c.serve.new.text =
    subst (GoesOn start c.args.lines.now (place + 1) c.serve.new.row) (sym said.1.1)
    (line-done start c.args.lines.now place line c.loop-place.row c.serve.new.row c.loop-place.text said.0 below c.index-lines-place.is c.loop-place.invariant.goes_on said.1.0) in
    record {
      count = c.in_ok-serve.ensures.count ∙ c.loop-place.invariant.count;
      ready = c.in_ok-serve.ensures.ready;
      goes_on = goes;
    }

pub returns-clause-done : goal.returns-clause-done
returns-clause-done c =
    let past : length c.args.lines.now ≤ c.loop-place.place = omega arith in
    all-done c.args.row.now c.args.lines.now c.loop-place.place c.loop-place.row c.loop-place.text past c.loop-place.invariant.goes_on
