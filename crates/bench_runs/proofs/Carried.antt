-- A line leaves all as it is to stand before the next one, with the requests that come of it.
use Rattle.std.proofs.lemmas.Option.{same_Some}
use Rattle.std.proofs.Common.{◌≡◌, ◌≤◌, ◌+◌, max, ℕ, zero, suc, true, List, Some, None, refl, sym, ap, subst, ◌∙◌, inl, inr, arith}
use Rattle.array_journal.specs.declared.at.At.{At}
use Rattle.array_journal.specs.declared.event.Event.{Event}
use Rattle.array_journal.specs.declared.event.Event.TheVariants as events
use Rattle.host_scripts.specs.declared.bench.BenchAction.{BenchAction}
use Rattle.host_scripts.specs.declared.bench.BenchAction.TheVariants.{Raw, Lose, Reset, DropNext, Fresh}
use Rattle.xor_target.specs.declared.order.Order.{Order}
use Rattle.xor_target.specs.declared.order.PeerRequest.{PeerRequest}
use Rattle.xor_target.specs.declared.answer.Answer.{Answer}
use Rattle.xor_target.specs.declared.answer.Answer.TheVariants.{Good, Check, Gone, Shut, Peer, Memory}
use Rattle.xor_target.specs.declared.answer.GoneAt.{GoneAt}
use Rattle.xor_target.specs.declared.answer.PeerBack.{PeerBack}
use Rattle.xor_target.specs.declared.answer.PeerBack.TheVariants as back
use Rattle.xor_target.specs.State.{TargetState, is_waiting}
use Rattle.xor_target.specs.Answers.{IsAnswered, next_stamp, loss_here}
use Rattle.xor_target.specs.Befalls.{IsLost, IsReset, IsDropping, IsFresh, reset_event, drop_event}
use Rattle.xor_target.specs.Resumes.{IsResumed}
use Rattle.xor_target.specs.Rigs.{Turns, IsAsked, IsHanded, IsCarried, Returns, AskedWants, SenderWants, IsSettled, IsRigAnswer, asks_further, handed_back, greatest_stamp, stamp_with}
use Rattle.xor_target.specs.Logs.{last_stamp}
use Rattle.xor_target.specs.Waits.{sends}
use Rattle.xor_target.proofs.RigAnswers.{none-filtered, same-waits}
use Rattle.bench_runs.specs.declared.line_answer.LineAnswer.{LineAnswer}
use Rattle.bench_runs.specs.BenchRuns.{IsDoneBy, newest_stamp, line_order, no_entry}
use Rattle.bench_runs.specs.Ready.{IsReady}
use Rattle.bench_runs.proofs.Grown.{Grows, Follows, Past, Still, Asked, Made, answered-grows, past-by, plain-follows, resumed-grows, one-grows}
use Rattle.bench_runs.proofs.Named.{Named, good-names}
use Rattle.bench_runs.proofs.Kept.{ready-turn, entry-next, newest-next, newest-still, newest-there}

seen-all : (last newest : ℕ) → last ≤ newest → max last newest ≡ newest
seen-all last newest h = omega (arith, h)

above : (n : ℕ) → max n (n + 1) ≡ n + 1
above n = omega arith

-- ---- an order

-- a target answers an order that has seen all entries
answered-ready : (number k : ℕ) (order : Order) (said : Answer) (ts after : List TargetState) → IsReady (number + 1) ts → order.owner ≡ number → order.stamp ≡ newest_stamp ts →
    Turns k (λ t now. IsAnswered true t order said now) ts after → IsReady (number + 1) after
answered-ready number k order said ts after ready owner stamp turn =
    ready-turn number k (λ t now. IsAnswered true t order said now) ts after ready turn
    (subst (λ (n : ℕ). Grows number n turn.before turn.now) stamp (answered-grows number turn.before order said turn.now owner turn.comes))

-- and what is asked then has seen all entries
past-seen : (number k : ℕ) (said : Answer) (comes_to : TargetState → TargetState → Type 0) (ts after : List TargetState) (turn : Turns k comes_to ts after) →
    Past number (newest_stamp ts) said turn.before turn.now → Follows number (newest_stamp after) said
past-seen number k said comes_to ts after turn (Still same ends) = plain-follows number (newest_stamp after) said ends
past-seen number k said comes_to ts after turn (Asked same follows) =
    let newest : newest_stamp after ≡ newest_stamp ts = ap newest_stamp turn.others ∙ newest-still ts k turn.before turn.now turn.stands same in
    let seen : max (last_stamp turn.before.past) (newest_stamp ts) ≡ newest_stamp ts = seen-all (last_stamp turn.before.past) (newest_stamp ts) (newest-there ts k turn.before turn.stands) in
    subst (λ (n : ℕ). Follows number n said) (seen ∙ sym newest) follows
past-seen number k said comes_to ts after turn (Made event past follows) =
    let next : next_stamp turn.before.past (newest_stamp ts) ≡ newest_stamp ts + 1 = entry-next ts k turn.before turn.now turn.stands event in
    let newest : newest_stamp after ≡ newest_stamp ts + 1 = ap newest_stamp turn.others ∙ newest-next ts k turn.before turn.now turn.stands event past in
    subst (λ (n : ℕ). Follows number n said) (next ∙ sym newest) follows

answered-seen : (number k : ℕ) (order : Order) (said : Answer) (ts after : List TargetState) → order.owner ≡ number → order.stamp ≡ newest_stamp ts →
    Turns k (λ t now. IsAnswered true t order said now) ts after → Follows number (newest_stamp after) said
answered-seen number k order said ts after owner stamp turn =
    past-seen number k said (λ t now. IsAnswered true t order said now) ts after turn
    (subst (λ (n : ℕ). Past number n said turn.before turn.now) stamp (past-by number turn.before order said turn.now owner turn.comes))

-- ---- a request, there and back

-- GOOD tells of the newest entry, if it made one
good-stamp : (k : ℕ) (order : Order) (said : Answer) (ts after : List TargetState) (bytes : List ℕ) (made : List At) → order.stamp ≡ newest_stamp ts → said ≡ Good bytes made →
    Turns k (λ t now. IsAnswered true t order said now) ts after → greatest_stamp order.stamp made ≡ newest_stamp after
good-stamp k order said ts after bytes made stamp is turn =
    by (subst (λ (n : ℕ). Named n made turn.before turn.now) stamp (good-names turn.before order said turn.now bytes made is turn.comes))
  where
    by : Named (newest_stamp ts) made turn.before turn.now → greatest_stamp order.stamp made ≡ newest_stamp after
    by (inl none) = ap (greatest_stamp order.stamp) none.0 ∙ stamp ∙ sym (ap newest_stamp turn.others ∙ newest-still ts k turn.before turn.now turn.stands none.1)
    by (inr one) =
        let event : Event = one.1.0 in
        let next : next_stamp turn.before.past (newest_stamp ts) ≡ newest_stamp ts + 1 = entry-next ts k turn.before turn.now turn.stands event in
        let newest : newest_stamp after ≡ newest_stamp ts + 1 = ap newest_stamp turn.others ∙ newest-next ts k turn.before turn.now turn.stands event one.1.1 in
        ap (greatest_stamp order.stamp) one.0 ∙ ap (λ (n : ℕ). max n (next_stamp turn.before.past (newest_stamp ts))) stamp
        ∙ ap (max (newest_stamp ts)) next ∙ above (newest_stamp ts) ∙ sym newest

good-said : (said : Answer) (peer : PeerBack) (bytes : List ℕ) (made : List At) → handed_back said ≡ Some peer → peer ≡ back.Good bytes made → said ≡ Good bytes made
good-said (Good own names) peer bytes made handed is = let same : back.Good own names ≡ back.Good bytes made = same_Some (back.Good own names) peer handed ∙ is in cc
good-said (Check sense names loss) peer bytes made handed is = let other : back.Failed ≡ back.Good bytes made = same_Some back.Failed peer handed ∙ is in absurd cc
good-said (Gone at life loss) peer bytes made handed is = let other : back.Failed ≡ back.Good bytes made = same_Some back.Failed peer handed ∙ is in absurd cc
good-said (Shut at) peer bytes made handed is = let other : back.Failed ≡ back.Good bytes made = same_Some back.Failed peer handed ∙ is in absurd cc
good-said (Peer request names) peer bytes made handed is = absurd (let no : None ≡ Some peer = handed in cc no)
good-said Memory peer bytes made handed is = absurd (let no : None ≡ Some peer = handed in cc no)

-- the greatest stamp that comes back with GOOD is the newest one
back-stamp : (request : PeerRequest) (said : Answer) (peer : PeerBack) (ts asked : List TargetState) → request.order.stamp ≡ newest_stamp ts → IsAsked true request said ts asked →
    handed_back said ≡ Some peer → (bytes : List ℕ) (made : List At) → peer ≡ back.Good bytes made → stamp_with request peer ≡ newest_stamp asked
back-stamp request said peer ts asked stamp ask handed bytes made is =
    ap (stamp_with request) is ∙ good-stamp request.to request.order said ts asked bytes made stamp (good-said said peer bytes made handed is) ask

handed-ready : (number : ℕ) (request : PeerRequest) (peer : PeerBack) (answer : Answer) (ts after : List TargetState) → IsReady (number + 1) ts → request.order.owner ≡ number →
    ((bytes : List ℕ) (made : List At) → peer ≡ back.Good bytes made → stamp_with request peer ≡ newest_stamp ts) → IsHanded true request peer answer ts after →
    IsReady (number + 1) after × Follows number (newest_stamp after) answer
handed-ready number request peer answer ts after ready owner at turn =
    let seen = stamp_with request peer in
    let comes_to : TargetState → TargetState → Type 0 = λ t now. IsResumed true t request.order.owner peer seen answer now in
    let h = resumed-grows number (newest_stamp ts) turn.before request.order.owner peer seen answer turn.now owner at turn.comes in
    (ready-turn number request.from comes_to ts after ready turn h.grows, past-seen number request.from answer comes_to ts after turn h.past)

not-good : (ts : List TargetState) (request : PeerRequest) (bytes : List ℕ) (made : List At) → back.Failed ≡ back.Good bytes made → stamp_with request back.Failed ≡ newest_stamp ts
not-good ts request bytes made e = absurd cc

carried-ready : (number : ℕ) (request : PeerRequest) (answer : Answer) (ts after : List TargetState) → IsReady (number + 1) ts → request.order.owner ≡ number → request.order.stamp ≡ newest_stamp ts →
    IsCarried true request answer ts after → IsReady (number + 1) after × Follows number (newest_stamp after) answer
carried-ready number request answer ts after ready owner stamp (Returns said peer asked ask is handed other) =
    let there = answered-ready number request.to request.order said ts asked ready owner stamp ask in
    handed-ready number request peer answer asked after there owner (back-stamp request said peer ts asked stamp ask is) handed
carried-ready number request answer ts after ready owner stamp (AskedWants ended asked ask handed says) =
    let there = answered-ready number request.to request.order Memory ts asked ready owner stamp ask in
    ((handed-ready number request back.Failed ended asked after there owner (not-good asked request) handed).0, plain-follows number (newest_stamp after) answer (ap asks_further says))
carried-ready number request answer ts after ready owner stamp (SenderWants said peer ended asked handed ask is wants over says) =
    let there = answered-ready number request.to request.order said ts asked ready owner stamp ask in
    let here = handed-ready number request peer Memory asked handed there owner (back-stamp request said peer ts asked stamp ask is) wants in
    ((handed-ready number request back.Failed ended handed after here.0 owner (not-good handed request) over).0, plain-follows number (newest_stamp after) answer (ap asks_further says))

settled-ready : (n number : ℕ) (said answer : Answer) (ts after : List TargetState) → IsReady (number + 1) ts → Follows number (newest_stamp ts) said → IsSettled n true said answer ts after →
    IsReady (number + 1) after
settled-ready zero number said answer ts after ready follows (ends, says, same) = subst (IsReady (number + 1)) (sym same) ready
settled-ready (suc n) number said answer ts after ready follows (request, made, next, carried, says, carry, rest) =
    let asks : Follows number (newest_stamp ts) (Peer request made) = subst (Follows number (newest_stamp ts)) says follows in
    let c = carried-ready number request next ts carried ready asks.0 asks.1 carry in
    settled-ready n number next answer carried after c.0 c.1 rest

order-ready : (number k : ℕ) (ts : List TargetState) (cdb bytes : List ℕ) (answer : Answer) (after : List TargetState) → IsReady (number + 1) ts →
    IsRigAnswer true ts k (line_order number (newest_stamp ts) cdb bytes) answer after → IsReady (number + 1) after
order-ready number k ts cdb bytes answer after ready is =
    let order = line_order number (newest_stamp ts) cdb bytes in
    settled-ready is.requests number is.said answer is.told after (answered-ready number k order is.said ts is.told ready refl refl is.executes)
    (answered-seen number k order is.said ts is.told refl refl is.executes) is.settled

-- ---- a line

lost-grows : (number stamp : ℕ) (t : TargetState) (answer : GoneAt) (next : TargetState) → IsLost t number stamp answer next → Grows number stamp t next
lost-grows number stamp t answer next lost =
    one-grows number stamp t next (loss_here t number) (ap (λ (u : TargetState). u.number) lost.grown) (ap (λ (u : TargetState). u.targets) lost.grown) (ap (λ (u : TargetState). u.block) lost.grown)
    (ap (λ (u : TargetState). u.past) lost.grown) (λ owner none. ap (λ (u : TargetState). is_waiting u owner) lost.grown ∙ none-filtered sends owner t.waiting none)

reset-grows : (number stamp : ℕ) (t : TargetState) (at : At) (next : TargetState) → IsReset t number stamp at next → Grows number stamp t next
reset-grows number stamp t at next reset =
    one-grows number stamp t next (reset_event t number) (ap (λ (u : TargetState). u.number) reset.grown) (ap (λ (u : TargetState). u.targets) reset.grown) (ap (λ (u : TargetState). u.block) reset.grown)
    (ap (λ (u : TargetState). u.past) reset.grown) (same-waits t next (ap (λ (u : TargetState). u.waiting) reset.grown))

dropping-grows : (number stamp : ℕ) (t : TargetState) (at : At) (next : TargetState) → IsDropping t number stamp at next → Grows number stamp t next
dropping-grows number stamp t at next dropping =
    one-grows number stamp t next (drop_event number) (ap (λ (u : TargetState). u.number) dropping.grown) (ap (λ (u : TargetState). u.targets) dropping.grown) (ap (λ (u : TargetState). u.block) dropping.grown)
    (ap (λ (u : TargetState). u.past) dropping.grown) (same-waits t next (ap (λ (u : TargetState). u.waiting) dropping.grown))

fresh-grows : (number stamp : ℕ) (t next : TargetState) → IsFresh t number no_entry stamp next → Grows number stamp t next
fresh-grows number stamp t next fresh =
    one-grows number stamp t next (events.Fresh number no_entry) (ap (λ (u : TargetState). u.number) fresh.grown) (ap (λ (u : TargetState). u.targets) fresh.grown) (ap (λ (u : TargetState). u.block) fresh.grown)
    (ap (λ (u : TargetState). u.past) fresh.grown) (same-waits t next (ap (λ (u : TargetState). u.waiting) fresh.grown))

later-ready : (number : ℕ) (ts : List TargetState) → IsReady number ts → IsReady (number + 1) ts
later-ready number ts ready = record {
  row = ready.row;
  idle = λ owner beyond. ready.idle owner (omega (arith, beyond));
  kept = ready.kept;
  stamped = ready.stamped;
}

asked-ready : (number k : ℕ) (ts : List TargetState) (action : BenchAction) (after : List TargetState) (came : LineAnswer) → IsReady (number + 1) ts → IsDoneBy number ts k action after came → IsReady (number + 1) after
asked-ready number k ts (Raw cdb bytes) after came ready (answer, (is, same)) = order-ready number k ts cdb bytes answer after ready is
asked-ready number k ts Lose after came ready (turn, same) =
    ready-turn number k (λ t next. (answer : GoneAt) × IsLost t number (newest_stamp ts) answer next) ts after ready turn
    (lost-grows number (newest_stamp ts) turn.before turn.comes.0 turn.now turn.comes.1)
asked-ready number k ts Reset after came ready (turn, same) =
    ready-turn number k (λ t next. (at : At) × IsReset t number (newest_stamp ts) at next) ts after ready turn
    (reset-grows number (newest_stamp ts) turn.before turn.comes.0 turn.now turn.comes.1)
asked-ready number k ts DropNext after came ready (turn, same) =
    ready-turn number k (λ t next. (at : At) × IsDropping t number (newest_stamp ts) at next) ts after ready turn
    (dropping-grows number (newest_stamp ts) turn.before turn.comes.0 turn.now turn.comes.1)
asked-ready number k ts Fresh after came ready (turn, same) =
    ready-turn number k (λ t next. IsFresh t number no_entry (newest_stamp ts) next) ts after ready turn
    (fresh-grows number (newest_stamp ts) turn.before turn.now turn.comes)

pub line-ready : (number k : ℕ) (ts : List TargetState) (action : BenchAction) (after : List TargetState) (came : LineAnswer) → IsReady number ts → IsDoneBy number ts k action after came → IsReady (number + 1) after
line-ready number k ts action after came ready done = asked-ready number k ts action after came (later-ready number ts ready) done
