-- No line changes how many targets there are.
use Rattle.std.proofs.Common.{◌≡◌, ℕ, zero, suc, true, List, length, ap, ◌∙◌}
use Rattle.array_journal.specs.declared.at.At.{At}
use Rattle.host_scripts.specs.declared.bench.BenchAction.{BenchAction}
use Rattle.host_scripts.specs.declared.bench.BenchAction.TheVariants.{Raw, Lose, Reset, DropNext, Fresh}
use Rattle.xor_target.specs.declared.order.PeerRequest.{PeerRequest}
use Rattle.xor_target.specs.declared.answer.Answer.{Answer}
use Rattle.xor_target.specs.declared.answer.Answer.TheVariants.{Memory}
use Rattle.xor_target.specs.declared.answer.GoneAt.{GoneAt}
use Rattle.xor_target.specs.declared.answer.PeerBack.{PeerBack}
use Rattle.xor_target.specs.declared.answer.PeerBack.TheVariants as back
use Rattle.xor_target.specs.State.{TargetState}
use Rattle.xor_target.specs.Answers.{IsAnswered}
use Rattle.xor_target.specs.Befalls.{IsLost, IsReset, IsDropping, IsFresh}
use Rattle.xor_target.specs.Resumes.{IsResumed}
use Rattle.xor_target.specs.Rigs.{IsAsked, IsHanded, IsCarried, Returns, AskedWants, SenderWants, IsSettled, stamp_with}
use Rattle.xor_target.proofs.RigRows.{as-many}
use Rattle.bench_runs.specs.declared.line_answer.LineAnswer.{LineAnswer}
use Rattle.bench_runs.specs.BenchRuns.{IsDoneBy, newest_stamp, line_order, no_entry}

asked-many : (request : PeerRequest) (said : Answer) (ts after : List TargetState) → IsAsked true request said ts after → length after ≡ length ts
asked-many request said ts after turn = as-many request.to (λ t now. IsAnswered true t request.order said now) ts after turn

handed-many : (request : PeerRequest) (peer : PeerBack) (answer : Answer) (ts after : List TargetState) → IsHanded true request peer answer ts after → length after ≡ length ts
handed-many request peer answer ts after turn =
    as-many request.from (λ t now. IsResumed true t request.order.owner peer (stamp_with request peer) answer now) ts after turn

carried-many : (request : PeerRequest) (answer : Answer) (ts after : List TargetState) → IsCarried true request answer ts after → length after ≡ length ts
carried-many request answer ts after (Returns said peer asked ask is handed other) =
    handed-many request peer answer asked after handed ∙ asked-many request said ts asked ask
carried-many request answer ts after (AskedWants ended asked ask handed says) =
    handed-many request back.Failed ended asked after handed ∙ asked-many request Memory ts asked ask
carried-many request answer ts after (SenderWants said peer ended asked handed ask is wants over says) =
    handed-many request back.Failed ended handed after over ∙ handed-many request peer Memory asked handed wants ∙ asked-many request said ts asked ask

settled-many : (n : ℕ) (said answer : Answer) (ts after : List TargetState) → IsSettled n true said answer ts after → length after ≡ length ts
settled-many zero said answer ts after (ends, says, same) = ap length same
settled-many (suc n) said answer ts after (request, made, next, carried, says, carry, rest) =
    settled-many n next answer carried after rest ∙ carried-many request next ts carried carry

pub line-many : (number k : ℕ) (ts : List TargetState) (action : BenchAction) (after : List TargetState) (came : LineAnswer) → IsDoneBy number ts k action after came → length after ≡ length ts
line-many number k ts (Raw cdb bytes) after came (answer, (is, same)) =
    settled-many is.requests is.said answer is.told after is.settled
    ∙ as-many k (λ t now. IsAnswered true t (line_order number (newest_stamp ts) cdb bytes) is.said now) ts is.told is.executes
line-many number k ts Lose after came (turn, same) = as-many k (λ t next. (answer : GoneAt) × IsLost t number (newest_stamp ts) answer next) ts after turn
line-many number k ts Reset after came (turn, same) = as-many k (λ t next. (at : At) × IsReset t number (newest_stamp ts) at next) ts after turn
line-many number k ts DropNext after came (turn, same) = as-many k (λ t next. (at : At) × IsDropping t number (newest_stamp ts) at next) ts after turn
line-many number k ts Fresh after came (turn, same) = as-many k (λ t next. IsFresh t number no_entry (newest_stamp ts) next) ts after turn
