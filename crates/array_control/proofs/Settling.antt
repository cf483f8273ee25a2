-- A host has gone on with its next call, or its next call was refused: how it stands then.
use Rattle.std.specs.Prelude.{◌≡◌, ◌≢◌, ◌<◌, ◌≤◌, ◌==◌, ℕ, zero, suc, Bool, true, false, cond, List, [], ◌∷◌, take, drop, length, Option, Some, None}
use Rattle.std.specs.List.{AllByRecursion}
use Rattle.std.proofs.Common.{refl, ap, sym, ◌∙◌, subst, arith, inl, inr}
use Rattle.std.proofs.lemmas.Bool.{eq-eqb, ne_eqb, cases_eq}
use Rattle.stripe_layout.specs.declared.geometry.Geometry.{Geometry}
use Rattle.sense_data.specs.declared.senses.Sense.{Sense}
use Rattle.array_journal.specs.declared.entry.Entry.{Entry}
use Rattle.array_journal.specs.declared.event.Why.TheVariants.{Illegal}
use Rattle.host_requests.specs.declared.faults.RequestFault.{RequestFault}
use Rattle.host_requests.specs.declared.requests.Transfer.{Transfer as CallTransfer}
use Rattle.host_requests.specs.Forms.{sense_of, transfer_as}
use Rattle.host_requests.specs.Requests.{Request, Fails, Moves, request_of}
use Rattle.host_scripts.specs.declared.script.Action.{Action}
use Rattle.host_scripts.specs.declared.script.Action.TheVariants as actions
use Rattle.host_scripts.specs.declared.script.Call.{Call}
use Rattle.stripe_check.specs.declared.failure.Failure.TheVariants as failures
use Rattle.stripe_check.specs.Tallies.{untold}
use Rattle.unit_plans.specs.declared.doings.Reply.{Reply}
use Rattle.unit_plans.specs.declared.doings.Reply.TheVariants.{Good, Check}
use Rattle.unit_plans.specs.Buses.{BusSetting}
use Rattle.array_control.specs.declared.call_run.CallRun.{CallRun}
use Rattle.array_control.specs.declared.call_run.PieceRun.{PieceRun}
use Rattle.array_control.specs.declared.serving.Advanced.{Advanced}
use Rattle.array_control.specs.declared.serving.Advanced.TheVariants as steps
use Rattle.array_control.specs.declared.turns.Turned.{Turned}
use Rattle.array_control.specs.declared.turns.Work.TheVariants as works
use Rattle.array_control.specs.Arrays.{ComesTo, HasGrownBy, IsAtPiece, IsUnderWay}
use Rattle.array_control.specs.Begins.{pieces_by}
use Rattle.array_control.specs.HostCalls.{HostCalls, calls_from, calls_of, left_of, settled, with_reply}
use Rattle.array_control.specs.Progress.{HasEnded, IsRefused}
use Rattle.array_control.specs.Replies.{reply_of}
use Rattle.array_control.specs.Turns.{AreNew, AreOfHosts, HasServed, IsAtWork, IsCurrent, IsFailing, IsNextWork, IsTaken, StandsAt, WasTold, WereTold, not_taken, request_in, turned_by}
use Rattle.array_control.proofs.ComingToWork.{good-tells}
use Rattle.array_control.proofs.Executing.{all-done}
use Rattle.array_control.proofs.HostsStand.{told-stays, new-stays}
use Rattle.array_control.proofs.TakenAndLeft.{left-with_reply, told-with_reply}

-- ---- the numbers of a host's calls rise

abbrev Rises : ℕ → List (ℕ × Action) → Type 0
Rises n [] = Unit {0}
Rises n (call ∷ calls) = (n ≤ call.0) × Rises (suc call.0) calls

abbrev AreApart : ℕ → List (ℕ × Action) → Type 0
AreApart n calls = AllByRecursion (λ (call : ℕ × Action). call.0 ≢ n) calls

rises-less : (m n : ℕ) (calls : List (ℕ × Action)) → m ≤ n → Rises n calls → Rises m calls
rises-less m n [] less rises = tt
rises-less m n (call ∷ calls) less rises = let first = rises.0 in (omega (arith, less, first), rises.1)

from-rises : (host number : ℕ) (calls : List Call) → Rises number (calls_from host number calls)
from-rises host number [] = tt
from-rises host number (call ∷ calls) = by (call.host == host) (from-rises host (suc number) calls)
  where
    by : (own : Bool) → Rises (suc number) (calls_from host (suc number) calls) →
        Rises number (cond own ((number, call.action) ∷ calls_from host (suc number) calls) (calls_from host (suc number) calls))
    by true rises = (omega arith, rises)
    by false rises = rises-less number (suc number) (calls_from host (suc number) calls) (omega arith) rises

-- those behind a call are none of its number
later-apart : (m n : ℕ) (calls : List (ℕ × Action)) → n < m → Rises m calls → AreApart n calls
later-apart m n [] less rises = tt
later-apart m n (call ∷ calls) less rises = let first = rises.0 in (
  λ q. absurd (omega (arith, less, first, q)),
  later-apart (suc call.0) n calls (omega (arith, less, first)) rises.1,
)

next-from : (k m : ℕ) (calls rest : List (ℕ × Action)) (next : ℕ × Action) → Rises m calls → drop k calls ≡ next ∷ rest → m ≤ next.0
next-from zero m [] rest next rises q = absurd cc
next-from zero m (call ∷ calls) rest next rises q = let same : call ≡ next = cc in subst (λ (c : ℕ × Action). m ≤ c.0) same rises.0
next-from (suc k) m [] rest next rises q = absurd cc
next-from (suc k) m (call ∷ calls) rest next rises q =
    let behind = next-from k (suc call.0) calls rest next rises.1 q in let first = rises.0 in omega (arith, behind, first)

-- nor are those before it
before-apart : (k m : ℕ) (calls rest : List (ℕ × Action)) (next : ℕ × Action) → Rises m calls → drop k calls ≡ next ∷ rest →
    AreApart next.0 (take k calls)
before-apart zero m calls rest next rises q = tt
before-apart (suc k) m [] rest next rises q = tt
before-apart (suc k) m (call ∷ calls) rest next rises q =
    let behind = next-from k (suc call.0) calls rest next rises.1 q in (
      λ same. absurd (omega (arith, behind, same)),
      before-apart k (suc call.0) calls rest next rises.1 q,
    )

behind-apart : (k m : ℕ) (calls rest : List (ℕ × Action)) (next : ℕ × Action) → Rises m calls → drop k calls ≡ next ∷ rest → AreApart next.0 rest
behind-apart zero m [] rest next rises q = absurd cc
behind-apart zero m (call ∷ calls) rest next rises q =
    let same : call ≡ next = cc in let others : calls ≡ rest = cc in
    later-apart (suc next.0) next.0 rest (omega arith)
    (subst (λ (c : ℕ × Action). Rises (suc c.0) rest) same (subst (Rises (suc call.0)) others rises.1))
behind-apart (suc k) m [] rest next rises q = absurd cc
behind-apart (suc k) m (call ∷ calls) rest next rises q = behind-apart k (suc call.0) calls rest next rises.1 q

-- ---- what a call of a host is told

tells-check : (g : Geometry) (action : Action) (sense : Sense) → request_of g action ≡ Fails sense →
    Check sense ≡ reply_of action [] (Some (failures.Refused (Illegal sense))) untold
tells-check g (actions.Read lba count) sense fails = refl
tells-check g (actions.Write lba sent) sense fails = refl
tells-check g (actions.Fill lba count byte) sense fails = refl
tells-check g (actions.Raw cdb sent) sense fails = refl
tells-check g (actions.Lose target) sense fails = absurd cc
tells-check g (actions.Reset target) sense fails = absurd cc
tells-check g (actions.DropNext target) sense fails = absurd cc
tells-check g (actions.Replace target) sense fails = absurd cc
tells-check g (actions.Rebuild target) sense fails = absurd cc
tells-check g actions.Resync sense fails = absurd cc

-- ---- how far a call is in its pieces

piece-within : (b : BusSetting) (n count piece : ℕ) (read : List ℕ) (doing : Option PieceRun) (journal : List Entry) →
    IsAtPiece b n count piece read doing journal → piece ≤ count
piece-within b n count piece read None journal at = at.in_count
piece-within b n count piece read (Some doing) journal at = let within = at.serving.in_count in omega (arith, within)

-- a call whose pieces are all done has ended
call-ended : (b : BusSetting) (next : ℕ × Action) (call : CallRun) (journal : List Entry) → call.number ≡ next.0 →
    request_in b next ≡ Moves (transfer_as call.transfer) → IsUnderWay b call journal → call.piece ≡ call.count →
    WasTold b next.0 next.1 (request_in b next) (Good call.read) journal
call-ended b next call journal number asks way done =
    subst (λ (r : Request). WasTold b next.0 next.1 r (Good call.read) journal) (sym asks) (record {
      bytes = call.read;
      failure = None;
      ended =
          subst (λ (n : ℕ). HasEnded b.array.geometry n (length (pieces_by b (transfer_as call.transfer))) call.read None journal) number
          (all-done b call journal way (eq-eqb call.piece call.count done));
      tells = good-tells b.array.geometry next.1 (transfer_as call.transfer) call.read asks;
    })

-- ---- the first of the calls that are left

module _ (b : BusSetting) (run : HostCalls) (next : ℕ × Action) (rest : List (ℕ × Action)) (here : left_of run ≡ next ∷ rest) where
  told-apart : AreApart next.0 (take (length run.replies) (calls_of run.host run.calls))
  told-apart = before-apart (length run.replies) 1 (calls_of run.host run.calls) rest next (from-rises run.host 1 run.calls) here

  rest-apart : AreApart next.0 rest
  rest-apart = behind-apart (length run.replies) 1 (calls_of run.host run.calls) rest next (from-rises run.host 1 run.calls) here

  rest-of_hosts : AreOfHosts b (left_of run) → AreOfHosts b rest
  rest-of_hosts hosts = (subst (AreOfHosts b) here hosts).1

  -- it was told a reply
  with-reply-stands : (reply : Reply) (journal : List Entry) → run.current ≡ None →
      WereTold b (take (length run.replies) (calls_of run.host run.calls)) run.replies journal → WasTold b next.0 next.1 (request_in b next) reply journal →
      AreNew rest journal → AreOfHosts b (left_of run) → StandsAt b (with_reply run reply) journal
  with-reply-stands reply journal idle told its new hosts =
      let left : left_of (with_reply run reply) ≡ rest = left-with_reply run next rest reply here in record {
        told = told-with_reply run next rest reply here b journal told its;
        current = subst (λ (o : Option CallRun). IsCurrent b (left_of (with_reply run reply)) o journal) (sym idle) tt;
        new = subst (λ (o : Option CallRun). AreNew (not_taken o (left_of (with_reply run reply))) journal) (sym idle)
            (subst (λ (l : List (ℕ × Action)). AreNew l journal) (sym left) new);
        hosts = subst (AreOfHosts b) (sym left) (rest-of_hosts hosts);
      }

  -- it is kept
  kept-stands : (call : CallRun) (journal : List Entry) → WereTold b (take (length run.replies) (calls_of run.host run.calls)) run.replies journal →
      IsTaken b next call journal → AreNew rest journal → AreOfHosts b (left_of run) → StandsAt b (record run { current = Some call }) journal
  kept-stands call journal told taken new hosts = record {
    told = told;
    current = subst (λ (l : List (ℕ × Action)). IsCurrent b l (Some call) journal) (sym here) taken;
    new = subst (λ (l : List (ℕ × Action)). AreNew (drop 1 l) journal) (sym here) new;
    hosts = hosts;
  }

  -- either, by how far it is
  settled-stands : (call : CallRun) (journal : List Entry) → run.current ≡ None →
      WereTold b (take (length run.replies) (calls_of run.host run.calls)) run.replies journal →
      call.number ≡ next.0 → request_in b next ≡ Moves (transfer_as call.transfer) → IsUnderWay b call journal →
      AreNew rest journal → AreOfHosts b (left_of run) → StandsAt b (settled run call) journal
  settled-stands call journal idle told number asks way new hosts = elim (cases_eq call.piece call.count) [
    | inl done ↦ subst (λ (d : Bool). StandsAt b (cond d (with_reply run (Good call.read)) (record run { current = Some call })) journal)
        (sym (eq-eqb call.piece call.count done))
        (with-reply-stands (Good call.read) journal idle told (call-ended b next call journal number asks way done) new hosts)
    | inr more ↦ let within = piece-within b call.number call.count call.piece call.read call.doing journal way.at_piece in
        subst (λ (d : Bool). StandsAt b (cond d (with_reply run (Good call.read)) (record run { current = Some call })) journal)
        (sym (ne_eqb call.piece call.count more))
        (kept-stands call journal told (record { number = number; asks = asks; way = way; more = omega (arith, within, more) }) new hosts)
  ]

-- ---- a call was gone on with

record IsMoving (b : BusSetting) (run : HostCalls) (call : CallRun) (journal : List Entry) : Type 0 where
  next : ℕ × Action
  rest : List (ℕ × Action)
  here : left_of run ≡ next ∷ rest
  taken : IsTaken b next call journal
  new : AreNew rest journal

is-moving : (b : BusSetting) (run : HostCalls) (call : CallRun) (journal : List Entry) → IsNextWork b (left_of run) (Some (works.Moves call)) journal →
    IsMoving b run call journal
is-moving b run call journal work = by (left_of run) refl work
  where
    by : (left : List (ℕ × Action)) → left_of run ≡ left → IsNextWork b left (Some (works.Moves call)) journal → IsMoving b run call journal
    by [] here next = absurd next
    by (next ∷ rest) here both = record { next = next; rest = rest; here = here; taken = both.0; new = both.1 }

module _ (b : BusSetting) (run : HostCalls) (call : CallRun) (journal : List Entry) (at : IsAtWork b run (Some (works.Moves call)) journal) where
  moving : IsMoving b run call journal
  moving = is-moving b run call journal at.work

  for-next : (now : List Entry) → HasGrownBy b call.number (Moves (transfer_as call.transfer)) journal now →
      HasGrownBy b moving.next.0 (request_in b moving.next) journal now
  for-next now grown =
      subst (λ (r : Request). HasGrownBy b moving.next.0 r journal now) (sym moving.taken.asks)
      (subst (λ (n : ℕ). HasGrownBy b n (Moves (transfer_as call.transfer)) journal now) moving.taken.number grown)

  served-by : (step : Advanced) (new : CallRun) (now : List Entry) → ComesTo b call step new journal now →
      HasServed b (left_of run) call (turned_by step) journal now
  served-by steps.Made new now comes = record { call = moving.next; rest = moving.rest; first = moving.here; grown = for-next now comes.0 }
  served-by (steps.Blocked by) new now comes = (comes.0, comes.1.1)

  settled-after : (step : Advanced) (new : CallRun) (now : List Entry) → ComesTo b call step new journal now → StandsAt b (settled run new) now
  settled-after steps.Made new now comes =
      let grown = for-next now comes.0 in
      settled-stands b run moving.next moving.rest moving.here new now at.idle
      (told-stays b moving.next.0 (request_in b moving.next) journal now grown (take (length run.replies) (calls_of run.host run.calls)) run.replies
      (told-apart b run moving.next moving.rest moving.here) at.told)
      (comes.1.1.number ∙ moving.taken.number)
      (moving.taken.asks ∙ ap (λ (t : CallTransfer). Moves (transfer_as t)) (sym comes.1.1.transfer))
      comes.1.0
      (new-stays b moving.next.0 (request_in b moving.next) journal now grown moving.rest (rest-apart b run moving.next moving.rest moving.here) moving.new)
      at.hosts
  settled-after (steps.Blocked by) new now comes =
      subst (λ (c : CallRun). StandsAt b (settled run c) now) (sym comes.1.0)
      (subst (StandsAt b (settled run call)) (sym comes.0)
      (settled-stands b run moving.next moving.rest moving.here call journal at.idle at.told moving.taken.number moving.taken.asks moving.taken.way
      moving.new at.hosts))

pub served-turned : (b : BusSetting) (run : HostCalls) (call new : CallRun) (step : Advanced) (turned : Turned) (journal now : List Entry) →
    IsAtWork b run (Some (works.Moves call)) journal → ComesTo b call step new journal now → turned ≡ turned_by step →
    HasServed b (left_of run) call turned journal now
served-turned b run call new step turned journal now at comes is =
    subst (λ (t : Turned). HasServed b (left_of run) call t journal now) (sym is) (served-by b run call journal at step new now comes)

pub served-stands : (b : BusSetting) (run after : HostCalls) (call new : CallRun) (step : Advanced) (journal now : List Entry) →
    IsAtWork b run (Some (works.Moves call)) journal → ComesTo b call step new journal now → after ≡ settled run new → StandsAt b after now
served-stands b run after call new step journal now at comes is =
    subst (λ (r : HostCalls). StandsAt b r now) (sym is) (settled-after b run call journal at step new now comes)

-- ---- a call was refused

record IsToFail (b : BusSetting) (run : HostCalls) (number : ℕ) (fault : RequestFault) (journal : List Entry) : Type 0 where
  next : ℕ × Action
  rest : List (ℕ × Action)
  here : left_of run ≡ next ∷ rest
  failing : IsFailing b next number fault
  new : AreNew rest journal

is-to_fail : (b : BusSetting) (run : HostCalls) (number : ℕ) (fault : RequestFault) (journal : List Entry) →
    IsNextWork b (left_of run) (Some (works.Fails number fault)) journal → IsToFail b run number fault journal
is-to_fail b run number fault journal work = by (left_of run) refl work
  where
    by : (left : List (ℕ × Action)) → left_of run ≡ left → IsNextWork b left (Some (works.Fails number fault)) journal →
        IsToFail b run number fault journal
    by [] here next = absurd next
    by (next ∷ rest) here both = record { next = next; rest = rest; here = here; failing = both.0; new = both.1.1 }

check-told : (b : BusSetting) (next : ℕ × Action) (number : ℕ) (sense : Sense) (journal : List Entry) → number ≡ next.0 →
    request_in b next ≡ Fails sense → IsRefused b.array.geometry number sense journal → WasTold b next.0 next.1 (request_in b next) (Check sense) journal
check-told b next number sense journal number_is fails refused =
    subst (λ (r : Request). WasTold b next.0 next.1 r (Check sense) journal) (sym fails) (record {
      refused = subst (λ (n : ℕ). IsRefused b.array.geometry n sense journal) number_is refused;
      tells = tells-check b.array.geometry next.1 sense fails;
    })

pub refused-stands : (b : BusSetting) (run after : HostCalls) (number : ℕ) (fault : RequestFault) (sense : Sense) (journal now : List Entry) →
    IsAtWork b run (Some (works.Fails number fault)) journal → HasGrownBy b number (Fails (sense_of fault)) journal now →
    IsRefused b.array.geometry number (sense_of fault) now → sense ≡ sense_of fault → after ≡ with_reply run (Check sense) → StandsAt b after now
refused-stands b run after number fault sense journal now at grown refused sense_is is =
    let f : IsToFail b run number fault journal = is-to_fail b run number fault journal at.work in
    let own : HasGrownBy b f.next.0 (Fails (sense_of fault)) journal now =
    subst (λ (n : ℕ). HasGrownBy b n (Fails (sense_of fault)) journal now) f.failing.number_is grown in
    subst (λ (r : HostCalls). StandsAt b r now) (sym is)
    (subst (λ (s : Sense). StandsAt b (with_reply run (Check s)) now) (sym sense_is)
    (with-reply-stands b run f.next f.rest f.here (Check (sense_of fault)) now at.idle
    (told-stays b f.next.0 (Fails (sense_of fault)) journal now own (take (length run.replies) (calls_of run.host run.calls)) run.replies
    (told-apart b run f.next f.rest f.here) at.told)
    (check-told b f.next number (sense_of fault) now f.failing.number_is f.failing.fails refused)
    (new-stays b f.next.0 (Fails (sense_of fault)) journal now own f.rest (rest-apart b run f.next f.rest f.here) f.new)
    at.hosts))
