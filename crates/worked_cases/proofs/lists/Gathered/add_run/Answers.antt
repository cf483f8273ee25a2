use Rattle.std.proofs.lemmas.Result.{err_from_is_err_and}
use Rattle.worked_cases.proofs.lists.Gathered.add_run.Goals as goal

pub returns-in_err-call : goal.returns-in_err-call
returns-in_err-call c = λ list part.
    let p = err_from_is_err_and c.from_residual.result c.from_residual.ensures.1 in rw (p.1, p.2) (c.in_err-call.ensures list part)
