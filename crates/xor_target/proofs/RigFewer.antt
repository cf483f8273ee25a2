-- Each request that is carried leaves fewer to be carried.
use Rattle.std.specs.Prelude.{◌≡◌, ◌<◌, ◌≤◌, ℕ, zero, suc, Bool, false, List, Option, Some, option_map, unwrap_or, length, slice_get}
use Rattle.std.proofs.Common.{refl, ap, sym, subst, ◌∙◌, arith}
use Rattle.std.proofs.lemmas.Bool.{false≢true}
use Rattle.array_journal.specs.declared.at.At.{At}
use Rattle.xor_target.specs.declared.answer.Answer.{Answer}
use Rattle.xor_target.specs.declared.answer.Answer.TheVariants.{Good, Check, Gone, Shut, Peer, Memory}
use Rattle.xor_target.specs.declared.order.Order.{Order}
use Rattle.xor_target.specs.declared.order.PeerRequest.{PeerRequest}
use Rattle.xor_target.specs.State.{TargetState}
use Rattle.xor_target.specs.Answers.{IsAnswered}
use Rattle.xor_target.specs.Resumes.{IsResumed}
use Rattle.xor_target.specs.Gathers.{read_request}
use Rattle.xor_target.specs.Waits.{waiting_of}
use Rattle.xor_target.specs.Rigs.{Turns, IsRequest, IsIdle, IsLeft, IsSettled, IsRigAnswer, IsCarried, Returns, AskedWants, SenderWants, asks_further, stamp_with, requests_of, still_asked}
use Rattle.xor_target.proofs.RigRows.{kept, turned}
use Rattle.xor_target.proofs.RigAnswers.{Resumed, Goes, Stays, AsksNext}
use Rattle.xor_target.proofs.RigGatherings.{some-left, fewer-left}
use Rattle.xor_target.proofs.RigSteps.{asked-pending, resumed-at, ended-idle}

none-asked : (answer : Answer) (ts : List TargetState) → asks_further answer ≡ false → still_asked answer ts ≡ 0
none-asked (Good bytes made) ts h = refl
none-asked (Check sense made loss) ts h = refl
none-asked (Gone at life loss) ts h = refl
none-asked (Shut at) ts h = refl
none-asked (Peer request made) ts h = absurd (false≢true (sym h))
none-asked Memory ts h = refl

-- as many as the target has that asked, also after the other one has answered; there is at least one
record StillAsks (request : PeerRequest) (made : List At) (ts : List TargetState) (t : TargetState) : Type 0 where
  same : still_asked (Peer request made) ts ≡ requests_of request.order.owner t
  some : 1 ≤ requests_of request.order.owner t

still-at : (never_fails : Bool) (request : PeerRequest) (said : Answer) (made : List At) (ts asked : List TargetState) → IsRequest request ts →
    Turns request.to (λ t now. IsAnswered never_fails t request.order said now) ts asked → (t : TargetState) → slice_get asked request.from ≡ Some t → StillAsks request made ts t
still-at never_fails request said made ts asked r turn t at =
    let pending = asked-pending never_fails request said ts asked r turn in
    let stood : slice_get ts request.from ≡ Some t = sym (kept request.to (λ x y. IsAnswered never_fails x request.order said y) ts asked turn request.from (λ e. r.apart (sym e))) ∙ at in
    record {
      same = ap (λ (o : Option TargetState). unwrap_or (option_map (requests_of request.order.owner) o) 0) stood;
      some = some-left t request (length asked) (waiting_of request.order.owner t.waiting) refl (pending.alone.waits t at) (pending.goes_on t at);
    }

-- want of memory leaves none
wanting : (request : PeerRequest) (answer : Answer) (made : List At) (ts after : List TargetState) (t : TargetState) → answer ≡ Memory → StillAsks request made ts t →
    still_asked answer after < still_asked (Peer request made) ts
wanting request answer made ts after t says still =
    let none : still_asked answer after ≡ 0 = ap (λ (a : Answer). still_asked a after) says in
    omega (arith, none, still.same, still.some)

pub carried-fewer : (never_fails : Bool) (request : PeerRequest) (answer : Answer) (made : List At) (ts after : List TargetState) → IsRequest request ts →
    IsCarried never_fails request answer ts after → still_asked answer after < still_asked (Peer request made) ts
carried-fewer never_fails request answer made ts after r (AskedWants ended asked turn handed says) =
    wanting request answer made ts after handed.before says (still-at never_fails request Memory made ts asked r turn handed.before handed.stands)
carried-fewer never_fails request answer made ts after r (SenderWants said peer ended asked mid turn back handed given says) =
    wanting request answer made ts after handed.before says (still-at never_fails request said made ts asked r turn handed.before handed.stands)
carried-fewer never_fails request answer made ts after r (Returns said peer asked turn back handed other) =
    by (resumed-at never_fails request peer answer asked after (asked-pending never_fails request said ts asked r turn) handed)
  where
    still : StillAsks request made ts handed.before
    still = still-at never_fails request said made ts asked r turn handed.before handed.stands

    by : Resumed handed.before request.order.owner peer answer handed.now → still_asked answer after < still_asked (Peer request made) ts
    by (Goes ends unlike none place) = let zero = none-asked answer after ends in omega (arith, zero, still.same, still.some)
    by (Stays says same unfailed) = absurd (other says)
    by (AsksNext w g source bytes names stamp found has asks says grown unfailed) =
        let pending = asked-pending never_fails request said ts asked r turn in
        let placed = pending.row.placed request.from handed.before handed.stands in
        let on = pending.goes_on handed.before handed.stands w g found has in
        let further = read_request handed.before.number stamp g source in
        let at : slice_get after further.from ≡ Some handed.now =
        subst (λ (i : ℕ). slice_get after i ≡ Some handed.now) (sym placed.number)
        (turned request.from (λ x y. IsResumed never_fails x request.order.owner peer (stamp_with request peer) answer y) asked after handed) in
        let left : still_asked answer after ≡ requests_of request.order.owner handed.now =
        ap (λ (a : Answer). still_asked a after) says ∙ ap (λ (o : Option TargetState). unwrap_or (option_map (requests_of g.order.owner) o) 0) at
        ∙ ap (λ (o : ℕ). requests_of o handed.now) on.1.own in
        omega (arith, left, still.same, fewer-left handed.before handed.now request.order.owner w g source bytes names found has asks grown)

-- ---- requests one after another

-- What an order has come to while its requests are carried: what was said leaves a request that can be carried, or none; and what
-- it settles to is the row's answer.
pub record IsCarrying (never_fails : Bool) (ts : List TargetState) (number : ℕ) (order : Order) (said : Answer) (now : List TargetState) : Type 0 where
  pub left : IsLeft order.owner said now
  pub ends : (answer : Answer) (after : List TargetState) (n : ℕ) → IsSettled n never_fails said answer now after → IsRigAnswer never_fails ts number order answer after

pub begun : (never_fails : Bool) (ts : List TargetState) (number : ℕ) (order : Order) (said : Answer) (told : List TargetState) →
    Turns number (λ t now. IsAnswered never_fails t order said now) ts told → IsLeft order.owner said told → IsCarrying never_fails ts number order said told
begun never_fails ts number order said told turn left =
    record { left = left; ends = λ answer after n settled. record { said = said; told = told; executes = turn; requests = n; settled = settled } }

pub carried-on : (never_fails : Bool) (ts : List TargetState) (number : ℕ) (order : Order) (request : PeerRequest) (made : List At) (now : List TargetState) (next : Answer) (carried : List TargetState) →
    IsCarrying never_fails ts number order (Peer request made) now → IsCarried never_fails request next now carried → IsLeft request.order.owner next carried →
    IsCarrying never_fails ts number order next carried
carried-on never_fails ts number order request made now next carried h carry left = record {
  left = subst (λ (o : ℕ). IsLeft o next carried) h.left.1 left;
  ends = λ answer after n settled. h.ends answer after (suc n) (request, made, next, carried, refl, carry, settled);
}

-- what isn't a request is the answer
pub carried-out : (never_fails : Bool) (ts : List TargetState) (number : ℕ) (order : Order) (said : Answer) (now : List TargetState) → IsCarrying never_fails ts number order said now →
    asks_further said ≡ false → IsRigAnswer never_fails ts number order said now × IsIdle order.owner now
carried-out never_fails ts number order said now h ends = (h.ends said now zero (ends, refl, refl), ended-idle order.owner said now ends h.left)
