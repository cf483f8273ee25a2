use Rattle.std.proofs.lemmas.Result.{err_from_is_err_and}
use Rattle.worked_cases.proofs.lists.Gathered.add_case.Goals as goal

pub returns-in_err-add_varied : goal.returns-in_err-add_varied
returns-in_err-add_varied c = λ list part.
    let p = err_from_is_err_and c.from_residual.result c.from_residual.ensures.1 in
    rw (p.1, p.2) (c.in_err-add_varied.ensures list part (part.lines c.loop-line.line-index _ c.loop-line-test.true))
