-- A host comes to its next work: a call that was looked at, and those of no blocks, which are told that they are good.
use Rattle.std.specs.Prelude.{◌≡◌, ◌≢◌, ◌<◌, ◌+◌, ◌*◌, ◌/◌, ◌++◌, ◌==◌, ◌&&◌, nat_lt, ℕ, zero, suc, Bool, true, false, List, [], ◌∷◌, Option, Some, None, cond, length, drop, replicate, slice_get, slice_index}
use Rattle.std.proofs.Common.{refl, ap, sym, ◌∙◌, subst, arith}
use Rattle.std.proofs.lemmas.Bool.{eq-eqb, ne_eqb, eqb-true, eqb-false, lt-ltb, ltb-false, false≢true}
use Rattle.std.proofs.lemmas.List.{append-nil, append_assoc}
use Rattle.cdb_fields.specs.Fields.{number_at}
use Rattle.sense_data.specs.declared.senses.Sense.{Sense}
use Rattle.stripe_layout.specs.declared.geometry.Geometry.{Geometry}
use Rattle.stripe_layout.specs.Layout.{capacity_of}
use Rattle.array_journal.specs.declared.entry.Entry.{Entry}
use Rattle.array_journal.specs.declared.event.Why.TheVariants.{Medium}
use Rattle.array_journal.specs.Calls.{IsNewCall}
use Rattle.host_requests.specs.Forms.{transfer_as}
use Rattle.host_requests.specs.Requests.{Request, Moves, Transfer, bytes_due, cdb_fault, illegal, moved, raw_transfer, reading, writing, request_of, transfer_fault, unless}
use Rattle.host_scripts.specs.declared.script.Action.{Action}
use Rattle.host_scripts.specs.declared.script.Action.TheVariants as actions
use Rattle.stripe_check.specs.Steps.{Refused}
use Rattle.stripe_check.specs.Tallies.{untold}
use Rattle.unit_plans.specs.declared.doings.Reply.{Reply}
use Rattle.unit_plans.specs.declared.doings.Reply.TheVariants.{Good}
use Rattle.unit_plans.specs.Buses.{BusSetting}
use Rattle.array_control.specs.declared.call_run.CallRun.{CallRun}
use Rattle.array_control.specs.declared.call_run.PieceRun.{PieceRun}
use Rattle.array_control.specs.declared.turns.Work.{Work}
use Rattle.array_control.specs.declared.turns.Work.TheVariants as works
use Rattle.array_control.specs.Arrays.{HasToWaitFor, IsAtPiece, IsMove, IsTransferOf, IsUnderWay}
use Rattle.array_control.specs.Begins.{IsOfHost, pieces_by}
use Rattle.array_control.specs.HostCalls.{HostCalls, left_of, with_reply}
use Rattle.array_control.specs.Progress.{HasCome, HasEnded}
use Rattle.array_control.specs.Replies.{reply_of}
use Rattle.array_control.specs.Turns.{AreNew, AreOfHosts, FirstIsHeldUp, HasComeTo, HoldsUp, IsCurrent, IsFirstWork, IsNewlyTaken, IsNextHeldUp, IsNextWork, IsSameHost, IsTaken, StandsAt, WasServed, WasTold, is_empty, not_taken, request_in, upcoming}
use Rattle.array_control.proofs.Progress.{new-begins, last-ends}
use Rattle.array_control.proofs.TakenAndLeft.{left-with_reply, told-with_reply}

-- ---- calls that move blocks

-- what a call that passes its tests asks
unless-moves : (fault : Option Sense) (job : Request) (t : Transfer) → unless fault job ≡ Moves t → (fault ≡ None) × (job ≡ Moves t)
unless-moves None job t q = (refl, q)
unless-moves (Some sense) job t q = absurd cc

-- the third and the fourth test: the range, and the bytes that came
in-range : (b : BusSetting) (t : Transfer) → IsMove t.want → transfer_fault b.array.geometry t ≡ None → IsTransferOf b t
in-range b t moves none =
    by (nat_lt (capacity_of b.array.geometry) (t.lba + t.count)) (length t.bytes == bytes_due b.array.geometry t.want t.count) refl refl none
  where
    by : (far fits : Bool) → nat_lt (capacity_of b.array.geometry) (t.lba + t.count) ≡ far →
        (length t.bytes == bytes_due b.array.geometry t.want t.count) ≡ fits →
        cond far (Some (illegal 0x21 None)) (cond fits None (Some (illegal 0x1a None))) ≡ None → IsTransferOf b t
    by true fits is so q = absurd cc
    by false false is so q = absurd cc
    by false true is so q = record {
      moves = moves;
      within = ltb-false (capacity_of b.array.geometry) (t.lba + t.count) is;
      due = eqb-true (length t.bytes) (bytes_due b.array.geometry t.want t.count) so;
    }

moved-sound : (b : BusSetting) (t u : Transfer) → IsMove t.want → moved b.array.geometry t ≡ Moves u → IsTransferOf b u
moved-sound b t u moves q =
    let passes = unless-moves (transfer_fault b.array.geometry t) (Moves t) u q in
    let same : t ≡ u = let is = passes.1 in cc in
    subst (IsTransferOf b) same (in-range b t moves passes.0)

-- a CDB reads or writes
raw-moves : (cdb bytes : List ℕ) → IsMove (raw_transfer cdb bytes).want
raw-moves cdb bytes = by (slice_index cdb 0 == 0x28)
  where
    by : (reads : Bool) →
        IsMove (cond reads (reading (number_at 2 4 cdb) (number_at 7 2 cdb) bytes) (writing (number_at 2 4 cdb) (number_at 7 2 cdb) bytes)).want
    by true = tt
    by false = tt

-- a call that moves blocks passes its tests
pub transfer-sound : (b : BusSetting) (action : Action) (t : Transfer) → request_of b.array.geometry action ≡ Moves t → IsTransferOf b t
transfer-sound b (actions.Read lba count) t q = moved-sound b (reading lba count []) t tt q
transfer-sound b (actions.Write lba bytes) t q = moved-sound b (writing lba (length bytes / b.array.geometry.block) bytes) t tt q
transfer-sound b (actions.Fill lba count byte) t q = moved-sound b (writing lba count (replicate (count * b.array.geometry.block) byte)) t tt q
transfer-sound b (actions.Raw cdb bytes) t q =
    moved-sound b (raw_transfer cdb bytes) t (raw-moves cdb bytes)
    (unless-moves (cdb_fault cdb) (moved b.array.geometry (raw_transfer cdb bytes)) t q).1
transfer-sound b (actions.Lose target) t q = absurd cc
transfer-sound b (actions.Reset target) t q = absurd cc
transfer-sound b (actions.DropNext target) t q = absurd cc
transfer-sound b (actions.Replace target) t q = absurd cc
transfer-sound b (actions.Rebuild target) t q = absurd cc
transfer-sound b actions.Resync t q = absurd cc

-- where it doesn't fail, it is told that it is good, with what was read
pub good-tells : (g : Geometry) (action : Action) (t : Transfer) (bytes : List ℕ) → request_of g action ≡ Moves t →
    Good bytes ≡ reply_of action bytes None untold
good-tells g (actions.Read lba count) t bytes q = refl
good-tells g (actions.Write lba sent) t bytes q = refl
good-tells g (actions.Fill lba count byte) t bytes q = refl
good-tells g (actions.Raw cdb sent) t bytes q = refl
good-tells g (actions.Lose target) t bytes q = absurd cc
good-tells g (actions.Reset target) t bytes q = absurd cc
good-tells g (actions.DropNext target) t bytes q = absurd cc
good-tells g (actions.Replace target) t bytes q = absurd cc
good-tells g (actions.Rebuild target) t bytes q = absurd cc
good-tells g actions.Resync t bytes q = absurd cc

-- ---- a call that is new

-- with no entry it is at its first piece: a refusal of that one would be its end
first-piece : (g : Geometry) (n count piece : ℕ) (bytes : List ℕ) → HasCome g n count piece bytes [] → piece ≡ 0
first-piece g n zero piece bytes come = let none = come.in_count in omega (arith, none)
first-piece g n (suc count) piece bytes come = by (0 == piece) refl (come.steps (Refused 0 Medium ∷ []))
  where
    by : (same : Bool) → (0 == piece) ≡ same → (nat_lt 0 (suc count) && true) ≡ ((same && nat_lt 0 (suc count)) && true) → piece ≡ 0
    by true is q = sym (eqb-true 0 piece is)
    by false is q = absurd (false≢true (sym q ∙ ap (λ some. some && true) (lt-ltb 0 (suc count) (omega arith))))

-- and no command serves it
pub new-starts : (b : BusSetting) (call : CallRun) → IsUnderWay b call [] → (call.piece ≡ 0) × (call.doing ≡ None)
new-starts b call way = by call.doing refl way.at_piece
  where
    by : (doing : Option PieceRun) → call.doing ≡ doing → IsAtPiece b call.number call.count call.piece call.read doing [] →
        (call.piece ≡ 0) × (call.doing ≡ None)
    by None is at = (first-piece b.array.geometry call.number call.count call.piece call.read at, is)
    by (Some doing) is at = let no : None ≡ Some doing.plan.task = at.serving.its_task in absurd cc

module _ (b : BusSetting) (next : ℕ × Action) (call : CallRun) (asks : request_in b next ≡ Moves (transfer_as call.transfer)) (starts : (journal : List Entry) → IsNewCall next.0 journal → IsUnderWay b call journal) where
  way : IsUnderWay b call []
  way = starts [] tt

  -- it has some pieces
  pub newly-taken : call.number ≡ next.0 → (call.piece == call.count) ≡ false → IsNewlyTaken b next call
  newly-taken number more = record {
    taken = λ journal new. record {
      number = number;
      asks = asks;
      way = starts journal new;
      more =
          let first : call.piece ≡ 0 = (new-starts b call way).0 in
          let some = eqb-false call.piece call.count more in
          above call.piece call.count first some;
    };
    piece = (new-starts b call way).0;
    idle = (new-starts b call way).1;
  }
    where
      above : (piece count : ℕ) → piece ≡ 0 → piece ≢ count → piece < count
      above piece zero is other = absurd (other is)
      above piece (suc count) is other = omega (arith, is)

  -- or none
  pub newly-empty : (call.piece == call.count) ≡ true → is_empty b (request_in b next) ≡ true
  newly-empty done =
      ap (is_empty b) asks
      ∙ eq-eqb (length (pieces_by b (transfer_as call.transfer))) 0 (sym way.counted ∙ sym (eqb-true call.piece call.count done) ∙ (new-starts b call way).0)

-- ---- a call of no blocks

empty-moves : (b : BusSetting) (request : Request) → is_empty b request ≡ true → (t : Transfer) × (request ≡ Moves t) × (length (pieces_by b t) ≡ 0)
empty-moves b (Moves t) q = (t, refl, eqb-true (length (pieces_by b t)) 0 q)
empty-moves b _ q = absurd (false≢true q)

-- it is told that it is good, and no entry is made for it
empty-told : (b : BusSetting) (next : ℕ × Action) (journal : List Entry) → IsNewCall next.0 journal → is_empty b (request_in b next) ≡ true →
    WasTold b next.0 next.1 (request_in b next) (Good []) journal
empty-told b next journal new empty =
    let moves = empty-moves b (request_in b next) empty in
    let served : WasServed b next.0 next.1 moves.0 (Good []) journal =
    record {
      bytes = [];
      failure = None;
      ended =
          subst (λ (n : ℕ). HasEnded b.array.geometry next.0 n [] None journal) (sym moves.2)
          (last-ends b.array.geometry next.0 0 [] journal (new-begins b.array.geometry next.0 0 journal new));
      tells = good-tells b.array.geometry next.1 moves.0 [] moves.1;
    } in
    subst (λ (request : Request). WasTold b next.0 next.1 request (Good []) journal) (sym moves.1) served

-- ---- the calls of a host before the next one with something to do

first-left : {X : Type 0} (xs : List X) (x : X) → slice_get xs 0 ≡ Some x → xs ≡ x ∷ drop 1 xs
first-left [] x q = absurd cc
first-left (y ∷ xs) x q = let same : y ≡ x = cc in ap (λ z. z ∷ xs) same

none-left : {X : Type 0} (xs : List X) → slice_get xs 0 ≡ None → xs ≡ []
none-left [] q = refl
none-left (x ∷ xs) q = absurd cc

-- Calls of no blocks were told that they are good, and nothing else was done.
pub record HasPassed (b : BusSetting) (old now : HostCalls) : Type 0 where
  pub idle : now.current ≡ None
  pub same : IsSameHost old now
  pub hosts : AreOfHosts b (left_of now)
  pub comes : upcoming b (left_of now) ≡ upcoming b (left_of old)
  pub stands : (journal : List Entry) → StandsAt b old journal → StandsAt b now journal

pub passed-none : (b : BusSetting) (run : HostCalls) → run.current ≡ None → AreOfHosts b (left_of run) → HasPassed b run run
passed-none b run idle hosts = record {
  idle = idle;
  same = record { host = refl; calls = refl; more = []; replies = sym (append-nil run.replies) };
  hosts = hosts;
  comes = refl;
  stands = λ journal at. at;
}

module _ (b : BusSetting) (old now : HostCalls) (passed : HasPassed b old now) where
  -- where none was taken up, there is no entry of those that are left
  left-new : (journal : List Entry) → StandsAt b old journal → AreNew (left_of now) journal
  left-new journal at =
      subst (λ (current : Option CallRun). AreNew (not_taken current (left_of now)) journal) passed.idle (passed.stands journal at).new

  module _ (next : ℕ × Action) (first : slice_get (left_of now) 0 ≡ Some next) where
    abbrev rest : List (ℕ × Action)
    rest = drop 1 (left_of now)

    here : left_of now ≡ next ∷ rest
    here = first-left (left_of now) next first

    pub next-of_host : IsOfHost (request_in b next)
    next-of_host = (subst (AreOfHosts b) here passed.hosts).0

    upcoming-here : (empty : Bool) → is_empty b (request_in b next) ≡ empty → upcoming b (left_of now) ≡ cond empty (upcoming b rest) (next ∷ rest)
    upcoming-here empty is = ap (upcoming b) here ∙ ap (λ e. cond e (upcoming b rest) (next ∷ rest)) is

    -- ---- the next one is of no blocks, too

    pub passed-told : is_empty b (request_in b next) ≡ true → HasPassed b old (with_reply now (Good []))
    passed-told empty = record {
      idle = passed.idle;
      same = record {
        host = passed.same.host;
        calls = passed.same.calls;
        more = passed.same.more ++ Good [] ∷ [];
        replies = ap (λ (replies : List Reply). replies ++ Good [] ∷ []) passed.same.replies ∙ append_assoc old.replies passed.same.more (Good [] ∷ []);
      };
      hosts = hosts;
      comes = ap (upcoming b) left ∙ sym (upcoming-here true empty) ∙ passed.comes;
      stands = λ journal at. record {
        told =
            told-with_reply now next rest (Good []) here b journal (passed.stands journal at).told
            (empty-told b next journal (subst (λ (calls : List (ℕ × Action)). AreNew calls journal) here (left-new journal at)).0 empty);
        current = subst (λ (current : Option CallRun). IsCurrent b (left_of (with_reply now (Good []))) current journal) (sym passed.idle) tt;
        new =
            subst (λ (current : Option CallRun). AreNew (not_taken current (left_of (with_reply now (Good [])))) journal) (sym passed.idle)
            (subst (λ (calls : List (ℕ × Action)). AreNew calls journal) (sym left)
            (subst (λ (calls : List (ℕ × Action)). AreNew calls journal) here (left-new journal at)).1);
        hosts = hosts;
      };
    }
      where
        left : left_of (with_reply now (Good [])) ≡ rest
        left = left-with_reply now next rest (Good []) here

        hosts : AreOfHosts b (left_of (with_reply now (Good [])))
        hosts = subst (AreOfHosts b) (sym left) (subst (AreOfHosts b) here passed.hosts).1

    pub fewer-left : (reply : Reply) → length (left_of (with_reply now reply)) < length (left_of now)
    fewer-left reply =
        let less : length (left_of (with_reply now reply)) ≡ length rest = ap length (left-with_reply now next rest reply here) in
        let more : length (left_of now) ≡ length (next ∷ rest) = ap length here in
        omega (arith, less, more)

    -- ---- or it has something to do

    module _ (idle : old.current ≡ None) (work : Work) (todo : IsFirstWork b next (Some work)) where
      filled : is_empty b (request_in b next) ≡ false
      filled = by work todo
        where
          by : (work : Work) → IsFirstWork b next (Some work) → is_empty b (request_in b next) ≡ false
          by (works.Moves call) is =
              let taken : IsTaken b next call [] = is.taken [] tt in
              let some : call.piece < length (pieces_by b (transfer_as call.transfer)) = subst (λ (n : ℕ). call.piece < n) taken.way.counted taken.more in
              ap (is_empty b) taken.asks ∙ ne_eqb (length (pieces_by b (transfer_as call.transfer))) 0 (λ none. omega (arith, some, none))
          by (works.Fails number fault) is = ap (is_empty b) is.fails

      pub comes-to_work : (journal : List Entry) → StandsAt b old journal → HasComeTo b old now (Some work) journal
      comes-to_work journal at = record {
        same = passed.same;
        left = here ∙ sym (upcoming-here false filled) ∙ passed.comes;
        at_work = record {
          idle = passed.idle;
          told = (passed.stands journal at).told;
          work =
              subst (λ (calls : List (ℕ × Action)). IsNextWork b calls (Some work) journal) (sym here)
              (by work todo (subst (λ (calls : List (ℕ × Action)). AreNew calls journal) here (left-new journal at)));
          hosts = passed.hosts;
        };
        held = λ other held. subst (λ (current : Option CallRun). IsNextHeldUp b (left_of old) current other journal) (sym idle) (waits work todo other held);
      }
        where
          by : (work : Work) → IsFirstWork b next (Some work) → AreNew (next ∷ rest) journal → IsNextWork b (next ∷ rest) (Some work) journal
          by (works.Moves call) is new = (is.taken journal new.0, new.1)
          by (works.Fails number fault) is new = (is, new)

          waits : (work : Work) → IsFirstWork b next (Some work) → (other : ℕ) → HoldsUp b (Some work) other journal →
              FirstIsHeldUp b (upcoming b (left_of old)) other journal
          waits (works.Moves call) is other held =
              let taken : IsTaken b next call [] = is.taken [] tt in
              record {
                call = next;
                rest = rest;
                first = sym passed.comes ∙ upcoming-here false filled;
                transfer = transfer_as call.transfer;
                moves = taken.asks;
                waits =
                    subst (λ (n : ℕ). HasToWaitFor b n (transfer_as call.transfer) 0 other journal) taken.number
                    (subst (λ (piece : ℕ). HasToWaitFor b call.number (transfer_as call.transfer) piece other journal) is.piece held.waits);
              }
          waits (works.Fails number fault) is other held = absurd held

  -- ---- or there is none

  pub comes-to_end : slice_get (left_of now) 0 ≡ None → (journal : List Entry) → StandsAt b old journal → HasComeTo b old now None journal
  comes-to_end none journal at = record {
    same = passed.same;
    left = empty ∙ sym (ap (upcoming b) empty) ∙ passed.comes;
    at_work = record {
      idle = passed.idle;
      told = (passed.stands journal at).told;
      work = subst (λ (calls : List (ℕ × Action)). IsNextWork b calls None journal) (sym empty) tt;
      hosts = passed.hosts;
    };
    held = λ other held. absurd held;
  }
    where
      empty : left_of now ≡ []
      empty = none-left (left_of now) none
