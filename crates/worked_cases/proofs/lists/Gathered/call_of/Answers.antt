use Rattle.worked_cases.proofs.LineLaws.{fault-placed}
use Rattle.worked_cases.proofs.lists.Gathered.call_of.Goals as goal

pub returns-in-Err : goal.returns-in-Err
returns-in-Err c = λ list part. rw c.at.ensures (fault-placed list c.in-Err.wrong _ _ (part.lines c.loop-line.line-index _ c.loop-line-test.true))

pub returns-in-Err-finished : goal.returns-in-Err-finished
returns-in-Err-finished c = λ list part. rw c.at-in-Err-finished.ensures (fault-placed list c.in-Err-finished.wrong _ _ part.named.1)
