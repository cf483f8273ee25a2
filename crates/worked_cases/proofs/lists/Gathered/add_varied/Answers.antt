use Rattle.std.proofs.lemmas.Result.{err_from_is_err_and}
use Rattle.worked_cases.proofs.LineLaws.{fault-placed}
use Rattle.worked_cases.proofs.lists.Gathered.add_varied.Goals as goal

pub returns-in_err-add_run-in-each : goal.returns-in_err-add_run-in-each
returns-in_err-add_run-in-each c = λ list part line.
    let p = err_from_is_err_and c.from_residual-in_err-add_run-in-each.result c.from_residual-in_err-add_run-in-each.ensures.1 in
    rw (p.1, p.2) (c.in_err-add_run-in-each.ensures list part)

pub returns-in_err-add_numbered-in-Ok : goal.returns-in_err-add_numbered-in-Ok
returns-in_err-add_numbered-in-Ok c = λ list part line.
    let p = err_from_is_err_and c.from_residual-in_err-add_numbered-in-Ok.result c.from_residual-in_err-add_numbered-in-Ok.ensures.1 in
    rw (p.1, p.2) (c.in_err-add_numbered-in-Ok.ensures list part)

pub returns-in-Err : goal.returns-in-Err
returns-in-Err c = λ list part line. rw c.at.ensures (fault-placed list c.in-Err.wrong _ _ line)
