-- What a turn of one target leaves in a row of targets.
use Rattle.std.specs.Prelude.{◌≡◌, ◌≢◌, ◌<◌, ◌||◌, ◌+◌, ℕ, Bool, true, false, List, [], ◌∷◌, ◌++◌, length, get_or, Option, Some, None, is_some, slice_get, slice_set}
use Rattle.std.specs.List.{AllByRecursion}
use Rattle.std.proofs.Common.{refl, ap, sym, subst, ◌∙◌, arith}
use Rattle.std.proofs.lemmas.Bool.{false≢true}
use Rattle.std.proofs.lemmas.Option.{slice_get-get_or, same_Some}
use Rattle.array_journal.specs.declared.at.At.{At}
use Rattle.xor_params.specs.declared.sources.Descriptor.{Descriptor}
use Rattle.xor_params.specs.Contents.{sources_in}
use Rattle.xor_target.specs.declared.waiting.Waiting.{Waiting}
use Rattle.xor_target.specs.declared.order.Order.{Order}
use Rattle.xor_target.specs.declared.order.PeerRequest.{PeerRequest}
use Rattle.xor_target.specs.declared.answer.Answer.{Answer}
use Rattle.xor_target.specs.declared.answer.Answer.TheVariants.{Good, Check, Gone, Shut, Peer, Memory}
use Rattle.xor_target.specs.declared.answer.PeerBack.{PeerBack}
use Rattle.xor_target.specs.declared.answer.PeerBack.TheVariants as back
use Rattle.xor_target.specs.State.{TargetState, is_waiting}
use Rattle.xor_target.specs.Answers.{IsAnswered, next_name, newest_stamp, fold_request}
use Rattle.xor_target.specs.Gathers.{read_request}
use Rattle.xor_target.specs.Waits.{waiting_of}
use Rattle.xor_target.specs.Resumes.{IsResumed}
use Rattle.xor_target.specs.Rigs.{Turns, IsRow, WaitsAlone, asks_further, handed_back, stamp_with, IsPending, IsRequest, IsIdle, IsLeft, IsLeftBy, IsGoingOn, IsFittingIn}
use Rattle.xor_target.proofs.RigRows.{IsUnmoved, row-kept, idle-kept, alone-kept, alone-beside, as-many, kept, turned}
use Rattle.xor_target.proofs.Possible.{admitted-open}
use Rattle.xor_target.proofs.RigAnswers.{Left, Ends, Asks, Reads, left-by, asked-apart, reading-row, plain-ends, asks-waits, began-last, Resumed, Goes, Stays, AsksNext, resumed-by}
use Rattle.xor_target.proofs.RigGatherings.{known-others, other-source, first-goes, next-goes, waits-goes, found-taken}
use Rattle.xor_target.proofs.RigReads.{read-fits}

pub got : (ts : List TargetState) (k : ℕ) (t : TargetState) → k < length ts → t ≡ get_or ts k t → slice_get ts k ≡ Some t
got ts k t within is = slice_get-get_or ts k t within ∙ ap Some (sym is)

pub got-inside : (inside ts : List TargetState) (k : ℕ) (t : TargetState) → inside ≡ ts → k < length ts → t ≡ get_or inside k t → slice_get ts k ≡ Some t
got-inside inside ts k t same within is = got ts k t within (subst (λ (l : List TargetState). t ≡ get_or l k t) same is)

-- target k was taken out of what a row holds, came to something else, and was put back
pub turn-of : (k : ℕ) (comes_to : TargetState → TargetState → Type 0) (inside ts : List TargetState) (t now : TargetState) → inside ≡ ts → k < length ts → t ≡ get_or inside k t → comes_to t now →
    Turns k comes_to ts (slice_set inside k now)
turn-of k comes_to inside ts t now same within is comes =
    record { before = t; now = now; stands = got-inside inside ts k t same within is; comes = comes; others = ap (λ (l : List TargetState). slice_set l k now) same }

-- ---- an order

idle-left : (owner : ℕ) (said : Answer) (ts : List TargetState) → asks_further said ≡ false → IsIdle owner ts → IsLeft owner said ts
idle-left owner (Good bytes made) ts ends idle = idle
idle-left owner (Check sense made loss) ts ends idle = idle
idle-left owner (Gone at life loss) ts ends idle = idle
idle-left owner (Shut at) ts ends idle = idle
idle-left owner (Peer request made) ts ends idle = absurd (false≢true (sym ends))
idle-left owner Memory ts ends idle = idle

-- the target that came to something else waits alone in its row, where it goes on
pending-after : (k owner : ℕ) (comes_to : TargetState → TargetState → Type 0) (request : PeerRequest) (ts after : List TargetState) → IsRow ts →
    ((j : ℕ) (t : TargetState) → slice_get ts j ≡ Some t → j ≢ k → is_waiting t owner ≡ false) → (turn : Turns k comes_to ts after) → IsUnmoved turn.before turn.now →
    request.from ≡ k → request.order.owner ≡ owner → is_waiting turn.now owner ≡ true → IsGoingOn request (length ts) turn.now → IsPending request after
pending-after k owner comes_to request ts after row others turn place from own waits goes = record {
  row = row-kept k comes_to ts after row turn place;
  alone = subst (λ (o : ℕ). WaitsAlone request.from o after) (sym own) (subst (λ (i : ℕ). WaitsAlone i owner after) (sym from) (alone-kept k owner comes_to ts after others turn waits));
  goes_on = λ t at.
      let here : slice_get after k ≡ Some t = subst (λ (i : ℕ). slice_get after i ≡ Some t) from at in
      let now : t ≡ turn.now = same_Some t turn.now (sym here ∙ turned k comes_to ts after turn) in
      subst (λ (u : TargetState). IsGoingOn request (length after) u) (sym now)
      (subst (λ (n : ℕ). IsGoingOn request n turn.now) (sym (as-many k comes_to ts after turn)) goes);
}

-- a delta that was sent is waited for without gathering
sent-goes : (t now : TargetState) (request : PeerRequest) (many owner : ℕ) (made : List At) → request.order.owner ≡ owner → is_waiting t owner ≡ false →
    now.waiting ≡ t.waiting ++ record { owner = owner; made = made; gathering = None } ∷ [] → IsGoingOn request many now
sent-goes t now request many owner made own idle after w g found has =
    let sent : Waiting = record { owner = owner; made = made; gathering = None } in
    let first = began-last owner sent t.waiting refl idle in
    let here : waiting_of owner now.waiting ≡ Some w = subst (λ (o : ℕ). waiting_of o now.waiting ≡ Some w) own found in
    let same : sent ≡ w = same_Some sent w (sym first ∙ sym (ap (λ (ws : List Waiting). waiting_of owner ws) after) ∙ here) in
    let none : None ≡ Some g = ap (λ (x : Waiting). x.gathering) same ∙ has in
    absurd cc

-- an answer leaves a request that can be carried, or none that waits
pub left-of : (never_fails : Bool) (k : ℕ) (order : Order) (said : Answer) (ts after : List TargetState) → IsIdle order.owner ts →
    Turns k (λ t now. IsAnswered never_fails t order said now) ts after → IsLeft order.owner said after
left-of never_fails k order said ts after idle turn = by (left-by never_fails turn.before order said turn.now turn.comes)
  where
    comes_to : TargetState → TargetState → Type 0
    comes_to t now = IsAnswered never_fails t order said now

    before_idle : is_waiting turn.before order.owner ≡ false
    before_idle = idle.none k turn.before turn.stands

    by : Left turn.before order said turn.now → IsLeft order.owner said after
    by (Ends ends waiting place) =
        idle-left order.owner said after ends
        (record {
          row = row-kept k comes_to ts after idle.row turn place;
          none = idle-kept k order.owner comes_to ts after (λ j t at other. idle.none j t at) turn (waiting order.owner before_idle);
        })
    by (Asks dpo fua disable lba second count address delta early is says waiting place) =
        let placed = idle.row.placed k turn.before turn.stands in
        let apart = asked-apart turn.before order dpo fua disable lba second count address early is in
        let names = next_name turn.before order.stamp ∷ [] in
        let request = fold_request turn.before.number (next_name turn.before order.stamp) order second count address delta in
        let waits = asks-waits turn.before order.owner (record { owner = order.owner; made = names; gathering = None }) turn.now refl waiting in
        subst (λ (a : Answer). IsLeft order.owner a after) (sym says) (
          record {
            pending = pending-after k order.owner comes_to request ts after idle.row (λ j t at other. idle.none j t at) turn place placed.number refl waits
                (sent-goes turn.before turn.now request (length ts) order.owner names refl before_idle waiting);
            to = omega (arith, as-many k comes_to ts after turn, placed.targets, apart.0);
            apart = apart.1;
            plain = refl;
          },
          refl,
        )
    by (Reads g source command early is gathers first asks says grown) =
        let placed = idle.row.placed k turn.before turn.stands in
        let row = reading-row turn.before order command early is gathers in
        let stamp = newest_stamp turn.before.past order.stamp in
        let request = read_request turn.before.number stamp g source in
        let own : g.order.owner ≡ order.owner = ap (λ (o : Order). o.owner) first.of_order in
        let known = subst (λ (d : List Descriptor). AllByRecursion (λ (x : Descriptor). (x.target < turn.before.targets) × (x.target ≢ turn.before.number)) d) (sym first.sources)
        (known-others 0 turn.before.targets turn.before.number (sources_in order.bytes) row.known) in
        let others = subst (λ (n : ℕ). AllByRecursion (λ (x : Descriptor). (x.target < n) × (x.target ≢ turn.before.number)) g.sources) placed.targets known in
        let to = other-source (length ts) turn.before.number g.sources 0 source others asks in
        let waits = asks-waits turn.before order.owner (record { owner = order.owner; made = []; gathering = Some g }) turn.now refl (ap (λ (u : TargetState). u.waiting) grown) in
        let place : IsUnmoved turn.before turn.now = record { number = ap (λ (u : TargetState). u.number) grown; targets = ap (λ (u : TargetState). u.targets) grown; block = ap (λ (u : TargetState). u.block) grown } in
        subst (λ (a : Answer). IsLeft order.owner a after) (sym says) (
          record {
            pending = pending-after k order.owner comes_to request ts after idle.row (λ j t at other. idle.none j t at) turn place placed.number own waits
                (first-goes turn.before turn.now order request (length ts) command g source stamp before_idle (admitted-open turn.before order early) first row.few others asks refl grown);
            to = subst (λ (n : ℕ). source.target < n) (sym (as-many k comes_to ts after turn)) to.0;
            apart = to.1;
            plain = refl;
          },
          own,
        )

-- the answer of the target that is asked asks no other, and the one that asked still waits alone
pub asked-last : (never_fails : Bool) (request : PeerRequest) (said : Answer) (ts after : List TargetState) → IsRequest request ts →
    Turns request.to (λ t now. IsAnswered never_fails t request.order said now) ts after → asks_further said ≡ false
asked-last never_fails request said ts after r turn =
    plain-ends turn.before request.order said turn.now r.plain (left-by never_fails turn.before request.order said turn.now turn.comes)

pub asked-pending : (never_fails : Bool) (request : PeerRequest) (said : Answer) (ts after : List TargetState) → IsRequest request ts →
    Turns request.to (λ t now. IsAnswered never_fails t request.order said now) ts after → IsPending request after
asked-pending never_fails request said ts after r turn = by (left-by never_fails turn.before request.order said turn.now turn.comes)
  where
    comes_to : TargetState → TargetState → Type 0
    comes_to t now = IsAnswered never_fails t request.order said now

    before_idle : is_waiting turn.before request.order.owner ≡ false
    before_idle = r.pending.alone.others request.to turn.before turn.stands r.apart

    by : Left turn.before request.order said turn.now → IsPending request after
    by (Ends ends waiting place) = record {
      row = row-kept request.to comes_to ts after r.pending.row turn place;
      alone = alone-beside request.from request.to request.order.owner comes_to ts after (λ e. r.apart (sym e)) r.pending.alone turn (waiting request.order.owner before_idle);
      goes_on = λ t at.
          subst (λ (n : ℕ). IsGoingOn request n t) (sym (as-many request.to comes_to ts after turn))
          (r.pending.goes_on t (sym (kept request.to comes_to ts after turn request.from (λ e. r.apart (sym e))) ∙ at));
    }
    by (Asks dpo fua disable lba second count address delta early is says waiting place) =
        let ends = asked-last never_fails request said ts after r turn in
        absurd (false≢true (sym ends ∙ ap asks_further says))
    by (Reads g source command early is gathers first asks says grown) =
        let ends = asked-last never_fails request said ts after r turn in
        absurd (false≢true (sym ends ∙ ap asks_further says))

-- and what is handed back of it is as many bytes as the gathering that asked for them takes
pub asked-fits : (never_fails : Bool) (request : PeerRequest) (said : Answer) (ts after : List TargetState) → IsRequest request ts →
    Turns request.to (λ t now. IsAnswered never_fails t request.order said now) ts after → (peer : PeerBack) → handed_back said ≡ Some peer → IsFittingIn request peer after
asked-fits never_fails request said ts after r turn peer handed t at =
    let stood : slice_get ts request.from ≡ Some t = sym (kept request.to (λ x y. IsAnswered never_fails x request.order said y) ts after turn request.from (λ e. r.apart (sym e))) ∙ at in
    let asked = r.pending.row.placed request.to turn.before turn.stands in
    let sender = r.pending.row.placed request.from t stood in
    read-fits never_fails t turn.before turn.now request (length ts) said peer (r.pending.goes_on t stood) (asked.block ∙ sym sender.block) turn.comes handed

-- ---- what is handed back

goes-idle : (request : PeerRequest) (peer : PeerBack) (answer : Answer) (ts : List TargetState) → asks_further answer ≡ false → answer ≢ Memory → IsIdle request.order.owner ts → IsLeftBy request peer answer ts
goes-idle request peer (Good bytes made) ts ends other idle = idle
goes-idle request peer (Check sense made loss) ts ends other idle = idle
goes-idle request peer (Gone at life loss) ts ends other idle = idle
goes-idle request peer (Shut at) ts ends other idle = idle
goes-idle request peer (Peer further made) ts ends other idle = absurd (false≢true (sym ends))
goes-idle request peer Memory ts ends other idle = absurd (other refl)

-- what the target that asked answers to what is handed back
pub resumed-at : (never_fails : Bool) (request : PeerRequest) (peer : PeerBack) (answer : Answer) (ts after : List TargetState) → IsPending request ts →
    (turn : Turns request.from (λ t now. IsResumed never_fails t request.order.owner peer (stamp_with request peer) answer now) ts after) →
    Resumed turn.before request.order.owner peer answer turn.now
resumed-at never_fails request peer answer ts after pending turn =
    let waits = pending.alone.waits turn.before turn.stands in
    resumed-by never_fails turn.before request.order.owner peer (stamp_with request peer) answer turn.now
    (waits-goes turn.before request (length ts) (waiting_of request.order.owner turn.before.waiting) refl waits (pending.goes_on turn.before turn.stands)) turn.comes

pub handed-left : (never_fails : Bool) (request : PeerRequest) (peer : PeerBack) (answer : Answer) (ts after : List TargetState) → IsPending request ts →
    Turns request.from (λ t now. IsResumed never_fails t request.order.owner peer (stamp_with request peer) answer now) ts after → IsLeftBy request peer answer after
handed-left never_fails request peer answer ts after pending turn = by (resumed-at never_fails request peer answer ts after pending turn)
  where
    comes_to : TargetState → TargetState → Type 0
    comes_to t now = IsResumed never_fails t request.order.owner peer (stamp_with request peer) answer now

    waits : is_waiting turn.before request.order.owner ≡ true
    waits = pending.alone.waits turn.before turn.stands

    by : Resumed turn.before request.order.owner peer answer turn.now → IsLeftBy request peer answer after
    by (Goes ends other none place) =
        goes-idle request peer answer after ends other
        (record {
          row = row-kept request.from comes_to ts after pending.row turn place;
          none = idle-kept request.from request.order.owner comes_to ts after pending.alone.others turn none;
        })
    by (Stays says same unfailed) =
        let place : IsUnmoved turn.before turn.now = record { number = ap (λ (u : TargetState). u.number) same; targets = ap (λ (u : TargetState). u.targets) same; block = ap (λ (u : TargetState). u.block) same } in
        subst (λ (a : Answer). IsLeftBy request peer a after) (sym says) (
          pending-after request.from request.order.owner comes_to request ts after pending.row pending.alone.others turn place refl refl
              (ap (λ (u : TargetState). is_waiting u request.order.owner) same ∙ waits)
              (subst (λ (u : TargetState). IsGoingOn request (length ts) u) (sym same) (pending.goes_on turn.before turn.stands)),
          unfailed,
        )
    by (AsksNext w g source bytes made stamp found has asks says grown unfailed) =
        let placed = pending.row.placed request.from turn.before turn.stands in
        let on = pending.goes_on turn.before turn.stands w g found has in
        let further = read_request turn.before.number stamp g source in
        let to = other-source (length ts) request.from g.sources (g.answered + 1) source on.1.others asks in
        let place : IsUnmoved turn.before turn.now = record { number = ap (λ (u : TargetState). u.number) grown; targets = ap (λ (u : TargetState). u.targets) grown; block = ap (λ (u : TargetState). u.block) grown } in
        let taken : is_waiting turn.now request.order.owner ≡ true =
        ap (λ (u : TargetState). is_waiting u request.order.owner) grown ∙ ap (λ (o : Option Waiting). is_some o) (found-taken request.order.owner made bytes turn.before.waiting w found) in
        subst (λ (a : Answer). IsLeftBy request peer a after) (sym says) (
          unfailed,
          record {
            pending = pending-after request.from request.order.owner comes_to further ts after pending.row pending.alone.others turn place placed.number on.1.own taken
                (next-goes turn.before turn.now request further (length ts) w g source bytes made stamp found has on.0 on.1 asks placed.number refl grown);
            to = subst (λ (n : ℕ). source.target < n) (sym (as-many request.from comes_to ts after turn)) to.0;
            apart = λ e. to.1 (e ∙ placed.number);
            plain = refl;
          },
          on.1.own,
        )

-- one that waits can be handed an answer
pub may-hand : (a b : Bool) (w : Bool) → w ≡ true → (w || a || b) ≡ true
may-hand a b true e = refl
may-hand a b false e = absurd (false≢true e)

-- a failure is never answered by want of memory
pub failed-idle : (request : PeerRequest) (answer : Answer) (ts : List TargetState) → IsLeftBy request back.Failed answer ts → IsIdle request.order.owner ts
failed-idle request (Good bytes made) ts left = left
failed-idle request (Check sense made loss) ts left = left
failed-idle request (Gone at life loss) ts left = left
failed-idle request (Shut at) ts left = left
failed-idle request (Peer further made) ts left = absurd (left.0 refl)
failed-idle request Memory ts left = absurd (left.1 refl)

pub other-left : (request : PeerRequest) (peer : PeerBack) (answer : Answer) (ts : List TargetState) → answer ≢ Memory → IsLeftBy request peer answer ts → IsLeft request.order.owner answer ts
other-left request peer (Good bytes made) ts other left = left
other-left request peer (Check sense made loss) ts other left = left
other-left request peer (Gone at life loss) ts other left = left
other-left request peer (Shut at) ts other left = left
other-left request peer (Peer further made) ts other left = (left.1, left.2)
other-left request peer Memory ts other left = absurd (other refl)

-- want of memory leaves none that waits
pub memory-left : (owner : ℕ) (answer : Answer) (ts : List TargetState) → answer ≡ Memory → IsIdle owner ts → IsLeft owner answer ts
memory-left owner answer ts says idle = subst (λ (a : Answer). IsLeft owner a ts) (sym says) idle

-- nothing is handed back for want of memory alone
pub nothing-back : (said : Answer) → asks_further said ≡ false → handed_back said ≡ None → said ≡ Memory
nothing-back (Good bytes made) ends none = absurd cc
nothing-back (Check sense made loss) ends none = absurd cc
nothing-back (Gone at life loss) ends none = absurd cc
nothing-back (Shut at) ends none = absurd cc
nothing-back (Peer request made) ends none = absurd (false≢true (sym ends))
nothing-back Memory ends none = refl

-- an order that leaves no request leaves none that waits
pub ended-idle : (owner : ℕ) (said : Answer) (ts : List TargetState) → asks_further said ≡ false → IsLeft owner said ts → IsIdle owner ts
ended-idle owner (Good bytes made) ts ends left = left
ended-idle owner (Check sense made loss) ts ends left = left
ended-idle owner (Gone at life loss) ts ends left = left
ended-idle owner (Shut at) ts ends left = left
ended-idle owner (Peer request made) ts ends left = absurd (false≢true (sym ends))
ended-idle owner Memory ts ends left = left

-- what isn't a request asks no other target
pub no-request : (said : Answer) → ((request : PeerRequest) (made : List At) → said ≡ Peer request made → ⊥) → asks_further said ≡ false
no-request (Good bytes made) other = refl
no-request (Check sense made loss) other = refl
no-request (Gone at life loss) other = refl
no-request (Shut at) other = refl
no-request (Peer request made) other = absurd (other request made refl)
no-request Memory other = refl
