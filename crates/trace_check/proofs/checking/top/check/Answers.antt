use Rattle.std.proofs.Common.{ℕ, List, inl, inr, refl, subst, sym}
use Rattle.program_status.specs.Words.{texts}
use Rattle.program_status.proofs.Endings.{handed-causes, noted-causes}
use Rattle.trace_check.specs.Endings.{IsTold}
use Rattle.trace_check.proofs.Completeness.{told-accepts, told-cut_short, told-finds, stop-accepts, stop-complete, stop-cut_short, stop-finds, stop-noted, stop-taken}
use Rattle.trace_check.proofs.checking.top.check.Goals as goal

-- ---- a run

pub returns-in-Ok-clause-accepts : goal.returns-in-Ok-clause-accepts
returns-in-Ok-clause-accepts g c =
    let told = subst (λ (t : List ℕ). IsTold (texts c.args.words.now) (g.S.Source.left c.args.source.now) t) (sym c.as_slice.ensures) c.in-Ok.ensures.told in
    told-accepts _ _ _ _ _ _ _ _ told c.hand_out.ensures

pub returns-in-Ok-clause-finds : goal.returns-in-Ok-clause-finds
returns-in-Ok-clause-finds g c = told-finds _ _ _ _ _ _ c.in-Ok.ensures.told

pub returns-in-Ok-clause-write_fault : goal.returns-in-Ok-clause-write_fault
returns-in-Ok-clause-write_fault g c = λ four.
    let told = subst (λ (t : List ℕ). IsTold (texts c.args.words.now) (g.S.Source.left c.args.source.now) t) (sym c.as_slice.ensures) c.in-Ok.ensures.told in
    let cut = told-cut_short _ _ _ _ _ _ _ _ _ told c.in-Ok.ensures.taken c.hand_out.ensures four in
    inl (cut.0, cut.1, cut.2, refl)

pub returns-in-Ok-clause-taken : goal.returns-in-Ok-clause-taken
returns-in-Ok-clause-taken g c = λ asks one. c.in-Ok.ensures.taken asks

pub returns-in-Ok-clause-unread : goal.returns-in-Ok-clause-unread
returns-in-Ok-clause-unread g c = c.work.ensures.unread

pub returns-in-Ok-clause-causes : goal.returns-in-Ok-clause-causes
returns-in-Ok-clause-causes g c = handed-causes _ _ _ _ _ _ _ _ _ c.hand_out.ensures

-- ---- what stops a check

pub returns-in-Err-clause-causes : goal.returns-in-Err-clause-causes
returns-in-Err-clause-causes g c = noted-causes _ _ _ _ _ _ _ _ _ _ _ _ c.in-Err.ensures.stop c.hand_note.ensures

pub returns-in-Err-clause-accepts : goal.returns-in-Err-clause-accepts
returns-in-Err-clause-accepts g c = stop-accepts _ _ _ _ _ _ _ _ _ _ _ _ c.in-Err.ensures.stop c.hand_note.ensures

pub returns-in-Err-clause-complete : goal.returns-in-Err-clause-complete
returns-in-Err-clause-complete g c = stop-complete _ _ _ _ _ _ _ _ _ _ _ _ c.in-Err.ensures.stop c.hand_note.ensures

pub returns-in-Err-clause-finds : goal.returns-in-Err-clause-finds
returns-in-Err-clause-finds g c = stop-finds _ _ _ _ _ _ _ _ _ _ c.in-Err.ensures.stop c.hand_note.ensures

pub returns-in-Err-clause-write_fault : goal.returns-in-Err-clause-write_fault
returns-in-Err-clause-write_fault g c = λ four.
    let cut = stop-cut_short _ _ _ _ _ _ _ _ _ _ _ c.in-Err.ensures.stop c.in-Err.ensures.taken c.hand_note.ensures four in
    inr (cut.0, cut.1, refl)

pub returns-in-Err-clause-taken : goal.returns-in-Err-clause-taken
returns-in-Err-clause-taken g c = λ asks one. stop-taken _ _ _ _ _ _ _ (c.in-Err.ensures.taken asks) c.hand_note.ensures one

pub returns-in-Err-clause-unread : goal.returns-in-Err-clause-unread
returns-in-Err-clause-unread g c = c.work.ensures.unread

pub returns-in-Err-clause-rejected : goal.returns-in-Err-clause-rejected
returns-in-Err-clause-rejected g c = λ is. stop-noted _ _ _ _ _ 1 _ _ _ _ _ c.in-Err.ensures.stop c.hand_note.ensures is (λ a. cc a) (λ a. cc a) (λ a. cc a) (λ a. cc a)

pub returns-in-Err-clause-refused : goal.returns-in-Err-clause-refused
returns-in-Err-clause-refused g c = λ is. stop-noted _ _ _ _ _ 2 _ _ _ _ _ c.in-Err.ensures.stop c.hand_note.ensures is (λ a. cc a) (λ a. cc a) (λ a. cc a) (λ a. cc a)

pub returns-in-Err-clause-limited : goal.returns-in-Err-clause-limited
returns-in-Err-clause-limited g c = λ is. stop-noted _ _ _ _ _ 7 _ _ _ _ _ c.in-Err.ensures.stop c.hand_note.ensures is (λ a. cc a) (λ a. cc a) (λ a. cc a) (λ a. cc a)
