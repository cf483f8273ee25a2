use Rattle.array_journal.proofs.runs.OwnLaws.{others-leave_mine}
use Rattle.array_journal.proofs.parts.others_leave_mine.Goals as goal

pub returns : goal.returns
returns c = others-leave_mine
