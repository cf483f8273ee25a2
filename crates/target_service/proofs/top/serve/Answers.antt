use Rattle.target_service.proofs.Endings.{ok-finds, ok-serves, ok-complete, ok-causes, ended-not_zero, ended-one_of, ended-found, ended-read, ended-write, ended-memory, ended-causes, ended-usage, ended-noted, ended-serves, ended-finds, ended-complete}
use Rattle.target_service.proofs.top.serve.Goals as goal

-- ---- the stream was served to its end

pub returns-in-Ok-clause-finds : goal.returns-in-Ok-clause-finds
returns-in-Ok-clause-finds g c = λ asks. ok-finds _ _ _ _ _ _ c.in-Ok.ensures.served.1

pub returns-in-Ok-clause-serves : goal.returns-in-Ok-clause-serves
returns-in-Ok-clause-serves g c = λ asks. ok-serves _ _ c.code.ensures

pub returns-in-Ok-clause-complete : goal.returns-in-Ok-clause-complete
returns-in-Ok-clause-complete g c = λ asks. ok-complete _ _ _ _ _ _ _ _ c.code.ensures

pub returns-in-Ok-clause-causes : goal.returns-in-Ok-clause-causes
returns-in-Ok-clause-causes g c = ok-causes _ _ _ _ c.code.ensures

-- ---- something stopped it

pub returns-in-Err-clause-served : goal.returns-in-Err-clause-served
returns-in-Err-clause-served g c = λ is. absurd (ended-not_zero _ _ _ _ _ _ c.note.ensures is)

pub returns-in-Err-clause-refused : goal.returns-in-Err-clause-refused
returns-in-Err-clause-refused g c = λ is. ended-found _ _ _ _ _ _ _ _ _ _ _ _ _ 2 _ c.in-Err.ensures.stop c.note.ensures is (λ a. cc a) (λ a. cc a) (λ a. cc a) (λ a. cc a)

pub returns-in-Err-clause-limited : goal.returns-in-Err-clause-limited
returns-in-Err-clause-limited g c = λ is. ended-found _ _ _ _ _ _ _ _ _ _ _ _ _ 7 _ c.in-Err.ensures.stop c.note.ensures is (λ a. cc a) (λ a. cc a) (λ a. cc a) (λ a. cc a)

pub returns-in-Err-clause-read_fault : goal.returns-in-Err-clause-read_fault
returns-in-Err-clause-read_fault g c = ended-read _ _ _ _ _ _ _ _ _ _ _ _ _ _ c.in-Err.ensures.stop c.note.ensures

pub returns-in-Err-clause-write_fault : goal.returns-in-Err-clause-write_fault
returns-in-Err-clause-write_fault g c = ended-write _ _ _ _ _ _ _ _ _ _ _ _ _ _ c.in-Err.ensures.stop c.note.ensures

pub returns-in-Err-clause-no_memory : goal.returns-in-Err-clause-no_memory
returns-in-Err-clause-no_memory g c = ended-memory _ _ _ _ _ _ _ _ _ _ _ _ _ _ c.in-Err.ensures.stop c.note.ensures

pub returns-in-Err-clause-causes : goal.returns-in-Err-clause-causes
returns-in-Err-clause-causes g c = ended-causes _ _ _ _ _ _ _ _ _ _ _ _ _ _ c.in-Err.ensures.stop c.note.ensures

pub returns-in-Err-clause-no_other : goal.returns-in-Err-clause-no_other
returns-in-Err-clause-no_other g c = ended-one_of _ _ _ _ _ _ c.note.ensures

pub returns-in-Err-clause-serves : goal.returns-in-Err-clause-serves
returns-in-Err-clause-serves g c = ended-serves _ _ _ _ _ _ _ _ _ _ _ _ _ _ c.in-Err.ensures.stop c.note.ensures

pub returns-in-Err-clause-finds : goal.returns-in-Err-clause-finds
returns-in-Err-clause-finds g c = ended-finds _ _ _ _ _ _ _ _ _ _ _ _ _ _ c.in-Err.ensures.stop c.note.ensures

pub returns-in-Err-clause-answers_usage : goal.returns-in-Err-clause-answers_usage
returns-in-Err-clause-answers_usage g c = ended-usage _ _ _ _ _ _ _ _ _ _ _ _ _ _ c.in-Err.ensures.stop c.note.ensures

pub returns-in-Err-clause-complete : goal.returns-in-Err-clause-complete
returns-in-Err-clause-complete g c = ended-complete _ _ _ _ _ _ _ _ _ _ _ _ _ _ c.in-Err.ensures.stop c.note.ensures

pub returns-in-Err-clause-unread : goal.returns-in-Err-clause-unread
returns-in-Err-clause-unread g c = c.work.ensures.unread

pub returns-in-Err-clause-noted : goal.returns-in-Err-clause-noted
returns-in-Err-clause-noted g c = ended-noted _ _ _ _ _ _ c.note.ensures
