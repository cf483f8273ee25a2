use Rattle.std.proofs.Common.{inl, inr, refl}
use Rattle.program_status.proofs.Endings.{handed-causes, noted-causes}
use Rattle.xor_cli.proofs.Ends.{noted-done, made-done, made-cut_short, made-runs, made-complete, made-command, made-refuses, later-refuses, made-limits, made-decodes, stop-refused, stop-exceeded, stop-no_other, stop-runs, stop-refuses, stop-limits, stop-decodes, stop-faults, stop-answers_usage, stop-complete, stop-decodes_complete, stop-noted, in-limit, stop-read_whole, stop-cut_short}
use Rattle.xor_cli.proofs.top.tool.Goals as goal

-- ---- what was made is handed out

pub returns-in-Ok-clause-done : goal.returns-in-Ok-clause-done
returns-in-Ok-clause-done g c = made-done _ _ _ _ _ _ _ _ _ _ c.in-Ok.ensures.made c.hand_out.ensures.journal c.hand_out.ensures.status

pub returns-in-Ok-clause-write_fault : goal.returns-in-Ok-clause-write_fault
returns-in-Ok-clause-write_fault g c = λ four.
    let cut = made-cut_short _ _ _ _ _ _ _ _ _ _ c.in-Ok.ensures.made c.hand_out.ensures.journal c.hand_out.ensures.status four in
    inl (cut.0, cut.1, refl, λ asked. c.in-Ok.ensures.whole asked)

pub returns-in-Ok-clause-runs : goal.returns-in-Ok-clause-runs
returns-in-Ok-clause-runs g c = λ run asked. made-runs run _ _ _ _ _ _ _ c.hand_out.ensures.status

pub returns-in-Ok-clause-complete : goal.returns-in-Ok-clause-complete
returns-in-Ok-clause-complete g c = λ run asked. made-complete run _ _ _ _ _ _ _ _ _ _ _ c.hand_out.ensures.status

pub returns-in-Ok-clause-refuses : goal.returns-in-Ok-clause-refuses
returns-in-Ok-clause-refuses g c = λ run asked. made-refuses _ run _ _ _ _ _ _ c.in-Ok.ensures.made asked

pub returns-in-Ok-clause-later : goal.returns-in-Ok-clause-later
returns-in-Ok-clause-later g c = λ run asked. later-refuses run _ _ _ _ (made-refuses _ run _ _ _ _ _ _ c.in-Ok.ensures.made asked)

pub returns-in-Ok-clause-limits : goal.returns-in-Ok-clause-limits
returns-in-Ok-clause-limits g c = λ run asked. made-limits _ run _ _ _ _ _ _ c.in-Ok.ensures.made asked

pub returns-in-Ok-clause-decodes : goal.returns-in-Ok-clause-decodes
returns-in-Ok-clause-decodes g c = λ format bytes value spelt is.
    made-decodes value _ _ _ _ _ _ _ (c.in-Ok.ensures.decodes format bytes value spelt is) c.hand_out.ensures.status

pub returns-in-Ok-clause-faults : goal.returns-in-Ok-clause-faults
returns-in-Ok-clause-faults g c = λ format bytes fault spelt is. absurd (c.in-Ok.ensures.faults format bytes fault spelt is)

pub returns-in-Ok-clause-answers_usage : goal.returns-in-Ok-clause-answers_usage
returns-in-Ok-clause-answers_usage g c = λ none. let asked = made-command _ _ _ _ c.in-Ok.ensures.made in absurd (none asked.0 asked.1)

pub returns-in-Ok-clause-noted : goal.returns-in-Ok-clause-noted
returns-in-Ok-clause-noted g c = λ two seven not. elim c.hand_out.ensures.status [
  | inl p ↦ noted-done _ _ p.0
  | inr p ↦ absurd (not p.0)
]

pub returns-in-Ok-clause-causes : goal.returns-in-Ok-clause-causes
returns-in-Ok-clause-causes g c = handed-causes _ _ _ _ _ _ _ _ _ c.hand_out.ensures.status

-- ---- what stopped it is noted

pub returns-in-Err-clause-causes : goal.returns-in-Err-clause-causes
returns-in-Err-clause-causes g c = noted-causes _ _ _ _ _ _ _ _ _ _ _ _ c.in-Err.ensures.stop c.hand_note.ensures.status

pub returns-in-Err-clause-refused : goal.returns-in-Err-clause-refused
returns-in-Err-clause-refused g c =
    stop-refused _ _ _ _ _ _ _ _ _ _ c.in-Err.ensures.stop c.hand_note.ensures.status

pub returns-in-Err-clause-no_other : goal.returns-in-Err-clause-no_other
returns-in-Err-clause-no_other g c = stop-no_other _ _ _ _ _ _ c.hand_note.ensures.status

pub returns-in-Err-clause-runs : goal.returns-in-Err-clause-runs
returns-in-Err-clause-runs g c = λ run.
    stop-runs _ run _ _ _ _ _ _ _ _ _ c.in-Err.ensures.stop c.hand_note.ensures.status

pub returns-in-Err-clause-write_fault : goal.returns-in-Err-clause-write_fault
returns-in-Err-clause-write_fault g c = λ four.
    let cut = stop-cut_short _ _ _ _ _ _ _ _ _ _ c.in-Err.ensures.stop c.hand_note.ensures.status four in
    inr (cut.0, cut.1, refl, c.hand_note.ensures.journal)

pub returns-in-Err-clause-exceeded : goal.returns-in-Err-clause-exceeded
returns-in-Err-clause-exceeded g c =
    stop-exceeded _ _ _ _ _ _ _ _ _ _ c.in-Err.ensures.stop c.hand_note.ensures.status

pub returns-in-Err-clause-refuses : goal.returns-in-Err-clause-refuses
returns-in-Err-clause-refuses g c = λ run.
    stop-refuses _ run _ _ _ _ _ _ _ _ _ c.in-Err.ensures.stop c.hand_note.ensures.status

pub returns-in-Err-clause-later : goal.returns-in-Err-clause-later
returns-in-Err-clause-later g c = λ run asked.
    later-refuses run _ _ _ _ (stop-refuses _ run _ _ _ _ _ _ _ _ _ c.in-Err.ensures.stop c.hand_note.ensures.status asked)

pub returns-in-Err-clause-limits : goal.returns-in-Err-clause-limits
returns-in-Err-clause-limits g c = λ run.
    stop-limits _ run _ _ _ _ _ _ _ _ _ c.in-Err.ensures.stop c.hand_note.ensures.status

pub returns-in-Err-clause-decodes : goal.returns-in-Err-clause-decodes
returns-in-Err-clause-decodes g c = λ format bytes value spelt is.
    stop-decodes value _ _ _ _ _ _ _ _ (c.in-Err.ensures.decodes format bytes value spelt is) c.hand_note.ensures.status

pub returns-in-Err-clause-faults : goal.returns-in-Err-clause-faults
returns-in-Err-clause-faults g c = λ format bytes fault spelt is.
    stop-faults fault _ _ _ _ _ _ (c.in-Err.ensures.faults format bytes fault spelt is) c.hand_note.ensures.status

pub returns-in-Err-clause-answers_usage : goal.returns-in-Err-clause-answers_usage
returns-in-Err-clause-answers_usage g c =
    stop-answers_usage _ _ _ _ _ _ _ _ _ _ c.in-Err.ensures.stop c.hand_note.ensures.status

pub returns-in-Err-clause-complete : goal.returns-in-Err-clause-complete
returns-in-Err-clause-complete g c = λ run. stop-complete _ run _ _ _ _ _ _ _ _ _ _ c.in-Err.ensures.stop c.hand_note.ensures.status

pub returns-in-Err-clause-decodes_complete : goal.returns-in-Err-clause-decodes_complete
returns-in-Err-clause-decodes_complete g c = λ format bytes value spelt is written note.
    stop-decodes_complete _ _ _ _ _ _ (c.in-Err.ensures.decodes format bytes value spelt is) c.hand_note.ensures.status note

pub returns-in-Err-clause-noted : goal.returns-in-Err-clause-noted
returns-in-Err-clause-noted g c = stop-noted _ _ _ _ _ _ c.hand_note.ensures.status

-- ---- what is read

pub returns-in-Ok-clause-unread : goal.returns-in-Ok-clause-unread
returns-in-Ok-clause-unread g c = c.work.ensures.unread

pub returns-in-Ok-clause-read_whole : goal.returns-in-Ok-clause-read_whole
returns-in-Ok-clause-read_whole g c = λ asked one. in-limit _ _ (c.in-Ok.ensures.whole asked)

pub returns-in-Err-clause-read_whole : goal.returns-in-Err-clause-read_whole
returns-in-Err-clause-read_whole g c = λ asked one.
    stop-read_whole _ _ _ _ _ _ _ _ _ _ _ asked c.in-Err.ensures.stop (c.in-Err.ensures.whole asked) c.hand_note.ensures.status one

pub returns-in-Err-clause-unread : goal.returns-in-Err-clause-unread
returns-in-Err-clause-unread g c = c.work.ensures.unread
