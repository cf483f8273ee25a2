-- An XDWRITE EXTENDED that was done sends its delta, or has its request dropped.
use Rattle.std.specs.Prelude.{◌≡◌, ℕ, Bool, true, false, List, [], ◌∷◌, ◌++◌, Some, None}
use Rattle.std.proofs.Common.{refl, ap, sym, ◌∙◌, subst}
use Rattle.sbc_cdbs.specs.declared.commands.Command.{Command}
use Rattle.xor_mode_page.specs.declared.pages.XorPage.{XorPage}
use Rattle.array_journal.specs.declared.at.At.{At}
use Rattle.array_journal.specs.declared.entry.Entry.{Entry}
use Rattle.xor_target.specs.declared.answer.Answer.{Answer}
use Rattle.xor_target.specs.declared.answer.Answer.TheVariants.{Good, Check, Gone, Shut, Peer, Memory}
use Rattle.xor_target.specs.declared.logical_unit.sending.Sending.{Sending}
use Rattle.xor_target.specs.declared.order.Order.{Order}
use Rattle.xor_target.specs.declared.order.PeerRequest.{PeerRequest}
use Rattle.xor_target.specs.declared.waiting.Waiting.{Waiting}
use Rattle.xor_target.specs.Disks.{DiskState}
use Rattle.xor_target.specs.Logs.{Logged, drops_next}
use Rattle.xor_target.specs.State.{TargetState, state_of}
use Rattle.xor_target.specs.Acts.{IsFewWhereGone, waiting_left}
use Rattle.xor_target.specs.Answers.{IsActed, Does, Fails, IsDone, IsStruck, IsSent, Sends, Drops, Loses, next_name, fold_request, communication_failure}
use Rattle.xor_target.specs.Sending.{with_bytes, sent_answer, waiting_sent}

-- what was taken before is for the next entry of a target
pub record IsReady (t : TargetState) (order : Order) (second count address : ℕ) (s : Sending) : Type 0 where
  pub name : s.name ≡ next_name t order.stamp
  pub kept : s.kept ≡ s.name ∷ []
  pub request : s.request ≡ fold_request t.number s.name order second count address []

sent-by : (never : Bool) (targets : ℕ) (first page : XorPage) (ws : List Waiting) (disk disk' : DiskState) (log log' : Logged) (order : Order) (command : Command)
    (second count address : ℕ) (s : Sending) (bytes : List ℕ) (dropped : Bool) →
    IsReady (state_of targets first page ws disk log) order second count address s → drops_next log.number log.past ≡ dropped →
    IsDone (state_of targets first page ws disk log) order command bytes (state_of targets first page ws disk' log') →
    IsSent never (state_of targets first page ws disk log) order command second count address
    (sent_answer s dropped (Good bytes (next_name (state_of targets first page ws disk log) order.stamp ∷ [])))
    (state_of targets first page (waiting_sent ws order.owner s dropped (Good bytes (next_name (state_of targets first page ws disk log) order.stamp ∷ []))) disk' log')
sent-by never targets first page ws disk disk' log log' order command second count address s bytes true ready e done =
    let name = next_name (state_of targets first page ws disk log) order.stamp in
    Drops bytes e done (ap (λ n. Check communication_failure (name ∷ []) (Some n)) ready.name)
sent-by never targets first page ws disk disk' log log' order command second count address s bytes false ready e done =
    let name = next_name (state_of targets first page ws disk log) order.stamp in
    Sends bytes (state_of targets first page ws disk' log') e done
    (ap (λ (names : List At). state_of targets first page (ws ++ record { owner = order.owner; made = names; gathering = None } ∷ []) disk' log') (ready.kept ∙ ap (λ (n : At). n ∷ []) ready.name))
    (ap (λ (r : PeerRequest). Peer (with_bytes r bytes) (name ∷ [])) ready.request
    ∙ ap (λ (n : At). Peer (fold_request log.number n order second count address bytes) (name ∷ [])) ready.name)

pub sent-of : (never : Bool) (targets : ℕ) (first page : XorPage) (ws : List Waiting) (disk disk' : DiskState) (log log' : Logged) (order : Order) (command : Command)
    (second count address : ℕ) (s : Sending) (answer : Answer) →
    IsReady (state_of targets first page ws disk log) order second count address s →
    IsActed never (state_of targets first page ws disk log) order command answer (state_of targets first page (waiting_left answer ws) disk' log') →
    IsSent never (state_of targets first page ws disk log) order command second count address (sent_answer s (drops_next log.number log.past) answer)
    (state_of targets first page (waiting_sent ws order.owner s (drops_next log.number log.past) answer) disk' log')
sent-of never targets first page ws disk disk' log log' order command second count address s answer ready (Does bytes done says) =
    let left = subst (λ (a : Answer). IsDone (state_of targets first page ws disk log) order command bytes (state_of targets first page (waiting_left a ws) disk' log')) says done in
    subst (λ (a : Answer). IsSent never (state_of targets first page ws disk log) order command second count address (sent_answer s (drops_next log.number log.past) a)
    (state_of targets first page (waiting_sent ws order.owner s (drops_next log.number log.past) a) disk' log')) (sym says)
    (sent-by never targets first page ws disk disk' log log' order command second count address s bytes (drops_next log.number log.past) ready refl left)
sent-of never targets first page ws disk disk' log log' order command second count address s answer ready (Fails struck says) =
    let left = subst (λ (a : Answer). IsStruck never (state_of targets first page ws disk log) order.stamp (state_of targets first page (waiting_left a ws) disk' log')) says struck in
    subst (λ (a : Answer). IsSent never (state_of targets first page ws disk log) order command second count address (sent_answer s (drops_next log.number log.past) a)
    (state_of targets first page (waiting_sent ws order.owner s (drops_next log.number log.past) a) disk' log')) (sym says)
    (Loses left refl)

pub few-sent : (past : List Entry) (s : Sending) (dropped : Bool) (answer : Answer) → IsFewWhereGone past answer → IsFewWhereGone past (sent_answer s dropped answer)
few-sent past s true (Good bytes made) few = tt
few-sent past s false (Good bytes made) few = tt
few-sent past s dropped (Check sense made loss) few = tt
few-sent past s dropped (Gone at life loss) few = few
few-sent past s dropped (Shut at) few = tt
few-sent past s dropped (Peer request made) few = tt
few-sent past s dropped Memory few = tt
