use Rattle.program_status.proofs.Endings.{handed-causes}
use Rattle.worked_cases.proofs.Endings.{stop-causes, stop-refused}
use Rattle.worked_cases.proofs.top.answer_list.Goals as goal

pub returns-in-Ok-clause-causes : goal.returns-in-Ok-clause-causes
returns-in-Ok-clause-causes g c = handed-causes _ _ _ _ _ _ _ _ _ c.hand_out.ensures

pub returns-in-Err-clause-causes : goal.returns-in-Err-clause-causes
returns-in-Err-clause-causes g c = stop-causes _ _ _ _ _ _ _ c.in-Err.ensures.stop c.hand_note.ensures

pub returns-in-Err-clause-refused : goal.returns-in-Err-clause-refused
returns-in-Err-clause-refused g c = stop-refused _ _ _ _ _ _ _ _ _ c.in-Err.ensures.stop c.hand_note.ensures
