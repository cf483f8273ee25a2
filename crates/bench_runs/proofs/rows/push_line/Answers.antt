use Rattle.std.proofs.Common.{◌≡◌, ◌++◌, rules}
use Rattle.std.specs.Fmt.{decimal}
use Rattle.std.proofs.lemmas.Result.{on_ok_weaker}
use Rattle.bench_runs.proofs.Done.{line-written}
use Rattle.bench_runs.proofs.rows.push_line.Goals as goal

pub returns : goal.returns
returns c =
    let told = c.in_ok-push_told.ensures in
    let number : c.push_number.new.text ≡ c.args.text.now ++ decimal c.args.number = search rules in
    on_ok_weaker c.push-2.result
    (λ ended. (
      told.0,
      (
        told.1.0,
        line-written c.args.text.now c.push_number.new.text c.push.new.self c.push_told.new.text c.push-2.new.self told.0 c.args.number number c.in_ok-push.ensures.ok told.1.1 ended,
      ),
    ))
    c.push-2.ensures.ok
