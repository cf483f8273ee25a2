use Rattle.std.proofs.lemmas.List.Elements.{All-take, All-drop}
use Rattle.std.proofs.lemmas.Result.{err_from_is_err_and}
use Rattle.worked_cases.specs.declared.faults.Expected.TheVariants.{Size}
use Rattle.worked_cases.specs.declared.faults.Wrong.TheVariants.{Unread}
use Rattle.worked_cases.specs.declared.lines.Line.{Line}
use Rattle.worked_cases.specs.Lines.{IsLine, AreLines}
use Rattle.worked_cases.proofs.LineLaws.{fault-placed, line-one}
use Rattle.worked_cases.proofs.lists.runs_of.Goals as goal

pub returns-then-list-gt-READ_LIMIT : goal.returns-then-list-gt-READ_LIMIT
returns-then-list-gt-READ_LIMIT c = rw c.at.ensures (fault-placed c.args.list.now (Unread Size) 1 _ (line-one c.args.list.now))

pub returns-in_err-add_begun : goal.returns-in_err-add_begun
returns-in_err-add_begun c =
    let are : AreLines c.args.list.now c.as_slice-lines.result.now = rw c.as_slice-lines.ensures.value c.in_ok-lines.ensures in
    let P : Line → Type 0 = λ line. IsLine c.args.list.now line.number line.text.now in
    let p = err_from_is_err_and c.from_residual-in_err-add_begun.result c.from_residual-in_err-add_begun.ensures.1 in
    rw (p.1, p.2)
    (c.in_err-add_begun.ensures c.args.list.now (are c.loop-place.place _ c.loop-place-test.true) (All-take P _ _ (All-take P _ _ (All-drop P _ _ are))))
