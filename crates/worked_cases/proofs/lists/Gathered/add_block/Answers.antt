use Rattle.worked_cases.proofs.LineLaws.{fault-placed}
use Rattle.worked_cases.proofs.lists.Gathered.add_block.Goals as goal

pub returns-in-Err : goal.returns-in-Err
returns-in-Err c = λ list part. rw c.at.ensures (fault-placed list c.in-Err.wrong _ _ (part.lines c.loop-line.line-index _ c.loop-line-test.true))
