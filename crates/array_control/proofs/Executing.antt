-- A call is gone on with until its end.
use Rattle.std.specs.Prelude.{◌≡◌, ◌<◌, ◌==◌, ℕ, Bool, true, false, List, [], ◌∷◌, length, Option, Some, None}
use Rattle.std.proofs.Common.{refl, ap, sym, ◌∙◌, subst, arith}
use Rattle.std.proofs.lemmas.Bool.{eqb-true, eqb-false}
use Rattle.std.proofs.Math.Arith.{lt_of_le-ne}
use Rattle.sense_data.specs.declared.senses.Sense.{Sense}
use Rattle.stripe_layout.specs.declared.geometry.Geometry.{Geometry}
use Rattle.stripe_layout.specs.declared.mode.Mode.{Mode}
use Rattle.array_journal.specs.declared.entry.Entry.{Entry}
use Rattle.host_requests.specs.declared.requests.Transfer.{Transfer as Moved}
use Rattle.host_requests.specs.declared.requests.Request.{Request as Asked}
use Rattle.host_requests.specs.declared.requests.Request.TheVariants as asks
use Rattle.host_requests.specs.declared.faults.RequestFault.{RequestFault}
use Rattle.host_requests.specs.Forms.{transfer_as, request_as}
use Rattle.host_requests.specs.Requests.{Request, Fails, Moves, Transfer, unless, moved, cdb_fault, raw_transfer, request_of, transfer_fault}
use Rattle.host_scripts.specs.declared.script.Action.TheVariants.{Raw}
use Rattle.unit_plans.specs.declared.doings.Reply.{Reply}
use Rattle.unit_plans.specs.declared.doings.Reply.TheVariants.{Good, Check}
use Rattle.unit_plans.specs.Buses.{BusSetting}
use Rattle.array_control.specs.declared.array.Array.{Array}
use Rattle.array_control.specs.declared.call_run.CallRun.{CallRun}
use Rattle.array_control.specs.declared.call_run.PieceRun.{PieceRun}
use Rattle.array_control.specs.declared.serving.Advanced.{Advanced}
use Rattle.array_control.specs.declared.serving.Advanced.TheVariants.{Made, Blocked}
use Rattle.array_control.specs.Arrays.{ComesTo, HasGrownBy, IsArrayOf, IsAtPiece, IsCalm, IsEntryFor, IsSameCall, IsUnderWay}
use Rattle.array_control.specs.Begins.{IsOfHost, most_of, pieces_by}
use Rattle.array_control.specs.Progress.{HasCome, HasEnded, IsRefused}
use Rattle.array_control.specs.Turns.{HasReadAll, MadeAll, WasTold}
use Rattle.array_control.proofs.Progress.{last-ends}

-- how far a call has come since its beginning, and by which entries
pub record Executes (alone reliable : Bool) (b : BusSetting) (old new : CallRun) (journal now : List Entry) : Type 0 where
  pub made : MadeAll b old.number (Moves (transfer_as old.transfer)) journal now
  pub way : IsUnderWay b new now
  pub same : IsSameCall old new
  pub calm : IsCalm alone reliable b now

pub executes-first : (alone reliable : Bool) (b : BusSetting) (call : CallRun) (journal : List Entry) → IsUnderWay b call journal → IsCalm alone reliable b journal →
    Executes alone reliable b call call journal journal
executes-first alone reliable b call journal way calm = record {
  made = record { more = []; newest = refl; are_for = tt };
  way = way;
  same = record { number = refl; transfer = refl; count = refl };
  calm = calm;
}

pub executes-on : (alone reliable : Bool) (b : BusSetting) (old mid new : CallRun) (advanced : Advanced) (journal now after : List Entry) →
    Executes alone reliable b old mid journal now → ComesTo b mid advanced new now after → IsCalm alone reliable b after →
    Executes alone reliable b old new journal after
executes-on alone reliable b old mid new Made journal now after so comes calm =
    let grown : HasGrownBy b old.number (Moves (transfer_as old.transfer)) now after =
    subst (λ (n : ℕ). HasGrownBy b n (Moves (transfer_as old.transfer)) now after) so.same.number
    (subst (λ (t : Moved). HasGrownBy b mid.number (Moves (transfer_as t)) now after) so.same.transfer comes.0) in
    record {
      made = record {
        more = grown.entry ∷ so.made.more;
        newest = grown.newest ∙ ap (λ (j : List Entry). grown.entry ∷ j) so.made.newest;
        are_for = (
          subst (λ (j : List Entry). IsEntryFor b old.number (Moves (transfer_as old.transfer)) grown.entry j) so.made.newest grown.is_for,
          so.made.are_for,
        );
      };
      way = comes.1.0;
      same = record {
        number = comes.1.1.number ∙ so.same.number;
        transfer = comes.1.1.transfer ∙ so.same.transfer;
        count = comes.1.1.count ∙ so.same.count;
      };
      calm = calm;
    }
executes-on alone reliable b old mid new (Blocked by) journal now after so comes calm =
    let back : now ≡ after = sym comes.0 in
    record {
      made = subst (MadeAll b old.number (Moves (transfer_as old.transfer)) journal) back so.made;
      way = subst (λ (c : CallRun). IsUnderWay b c after) (sym comes.1.0) (subst (IsUnderWay b mid) back so.way);
      same = subst (IsSameCall old) (sym comes.1.0) so.same;
      calm = calm;
    }

-- a call with pieces left can be gone on with
pub left-more : (b : BusSetting) (call : CallRun) (journal : List Entry) → IsUnderWay b call journal → (call.piece == call.count) ≡ false → call.piece < call.count
left-more b call journal way differs = by call.doing way.at_piece
  where
    by : (o : Option PieceRun) → IsAtPiece b call.number call.count call.piece call.read o journal → call.piece < call.count
    by None at = lt_of_le-ne at.in_count (eqb-false call.piece call.count differs)
    by (Some doing) at = at.serving.in_count

-- where none is left it has come to its end
pub all-done : (b : BusSetting) (call : CallRun) (journal : List Entry) → IsUnderWay b call journal → (call.piece == call.count) ≡ true →
    HasEnded b.array.geometry call.number (length (pieces_by b (transfer_as call.transfer))) call.read None journal
all-done b call journal way all = by call.doing way.at_piece
  where
    same : call.piece ≡ call.count
    same = eqb-true call.piece call.count all

    by : (o : Option PieceRun) → IsAtPiece b call.number call.count call.piece call.read o journal →
        HasEnded b.array.geometry call.number (length (pieces_by b (transfer_as call.transfer))) call.read None journal
    by None at =
        subst (λ (n : ℕ). HasEnded b.array.geometry call.number n call.read None journal) way.counted
        (last-ends b.array.geometry call.number call.count call.read journal
        (subst (λ (n : ℕ). HasCome b.array.geometry call.number call.count n call.read journal) same at))
    by (Some doing) at = let less : call.piece < call.count = at.serving.in_count in absurd (omega (arith, less, same))

pub executed : (alone reliable : Bool) (b : BusSetting) (old call : CallRun) (journal now : List Entry) → Executes alone reliable b old call journal now →
    (call.piece == call.count) ≡ true → (reply : Reply) → reply ≡ Good call.read → HasReadAll b old.number (transfer_as old.transfer) reply now
executed alone reliable b old call journal now so all reply is = record {
  bytes = call.read;
  ended =
      subst (λ (n : ℕ). HasEnded b.array.geometry n (length (pieces_by b (transfer_as old.transfer))) call.read None now) so.same.number
      (subst (λ (t : Moved). HasEnded b.array.geometry call.number (length (pieces_by b (transfer_as t))) call.read None now) so.same.transfer (all-done b call now so.way all));
  tells = is;
}

-- ---- what a CDB is told

pub read-told : (b : BusSetting) (n : ℕ) (cdb bytes : List ℕ) (t : Transfer) (request : Request) (reply : Reply) (now : List Entry) → Moves t ≡ request →
    HasReadAll b n t reply now → WasTold b n (Raw cdb bytes) request reply now
read-told b n cdb bytes t request reply now asks read =
    subst (λ (r : Request). WasTold b n (Raw cdb bytes) r reply now) asks (record { bytes = read.bytes; failure = None; ended = read.ended; tells = read.tells })

pub refused-told : (b : BusSetting) (n : ℕ) (cdb bytes : List ℕ) (sense : Sense) (request : Request) (now : List Entry) → Fails sense ≡ request →
    IsRefused b.array.geometry n sense now → WasTold b n (Raw cdb bytes) request (Check sense) now
refused-told b n cdb bytes sense request now asks refused =
    subst (λ (r : Request). WasTold b n (Raw cdb bytes) r (Check sense) now) asks (record { refused = refused; tells = refl })

-- one entry is all that came
pub one-made : (b : BusSetting) (n : ℕ) (asked request : Request) (journal now : List Entry) → asked ≡ request → HasGrownBy b n asked journal now →
    MadeAll b n request journal now
one-made b n asked request journal now asks grown = subst (λ (r : Request). MadeAll b n r journal now) asks (record {
  more = grown.entry ∷ [];
  newest = grown.newest;
  are_for = (grown.is_for, tt);
})

-- the array is the same over its bus as it was
pub array-stays : (b now : BusSetting) (geometry after_geometry : Geometry) (mode after_mode : Mode) (max after_max : ℕ) → IsArrayOf b geometry mode max → now ≡ b →
    after_geometry ≡ geometry → after_mode ≡ mode → after_max ≡ max → IsArrayOf now after_geometry after_mode after_max
array-stays b now geometry after_geometry mode after_mode max after_max array same g m x = record {
  geometry_is = g ∙ array.geometry_is ∙ ap (λ (s : BusSetting). s.array.geometry) (sym same);
  mode_is = m ∙ array.mode_is ∙ ap (λ (s : BusSetting). s.array.mode) (sym same);
  max_is = x ∙ array.max_is ∙ ap most_of (sym same);
}

pub calm-moves : (alone reliable : Bool) (b now : BusSetting) (journal : List Entry) → now ≡ b → IsCalm alone reliable b journal → IsCalm alone reliable now journal
calm-moves alone reliable b now journal same calm = subst (λ (x : BusSetting). IsCalm alone reliable x journal) (sym same) calm

pub way-moves : (b now : BusSetting) (call : CallRun) (journal : List Entry) → now ≡ b → IsUnderWay b call journal → IsUnderWay now call journal
way-moves b now call journal same way = subst (λ (x : BusSetting). IsUnderWay x call journal) (sym same) way

pub executes-further : (alone reliable : Bool) (b here : BusSetting) (old mid new : CallRun) (advanced : Advanced) (journal now after : List Entry) → here ≡ b →
    Executes alone reliable b old mid journal now → ComesTo here mid advanced new now after → IsCalm alone reliable here after →
    Executes alone reliable b old new journal after
executes-further alone reliable b here old mid new advanced journal now after same so comes calm =
    executes-on alone reliable b old mid new advanced journal now after so (subst (λ (x : BusSetting). ComesTo x mid advanced new now after) same comes)
    (subst (λ (x : BusSetting). IsCalm alone reliable x after) same calm)

-- nothing but its bus changes
pub over-bus : {X Y : Type 0} (old mid : Array X Y) (x y : X) → mid ≡ record old { bus = x } → record mid { bus = y } ≡ record old { bus = y }
over-bus old mid x y is = ap (λ (a : Array _ _). record a { bus = y }) is

-- ---- what a CDB asks

unless-of_host : (fault : Option Sense) (job : Request) → IsOfHost job → IsOfHost (unless fault job)
unless-of_host None job host = host
unless-of_host (Some sense) job host = tt

raw-of_host : (g : Geometry) (cdb bytes : List ℕ) → IsOfHost (request_of g (Raw cdb bytes))
raw-of_host g cdb bytes =
    unless-of_host (cdb_fault cdb) (moved g (raw_transfer cdb bytes))
    (unless-of_host (transfer_fault g (raw_transfer cdb bytes)) (Moves (raw_transfer cdb bytes)) tt)

not-of_host : (request : Asked) → ((fault : RequestFault) → request ≡ asks.Illegal fault → ⊥) → ((transfer : Moved) → request ≡ asks.Blocks transfer → ⊥) →
    IsOfHost (request_as request) → ⊥
not-of_host (asks.Illegal fault) not_illegal not_blocks host = not_illegal fault refl
not-of_host (asks.Blocks transfer) not_illegal not_blocks host = not_blocks transfer refl
not-of_host (asks.Lose target) not_illegal not_blocks host = host
not-of_host (asks.Wipe target what) not_illegal not_blocks host = host
not-of_host (asks.Replace slot) not_illegal not_blocks host = host
not-of_host (asks.Rebuild slot) not_illegal not_blocks host = host
not-of_host asks.Resync not_illegal not_blocks host = host

-- is never the operator's
pub raw-only : (g : Geometry) (cdb bytes : List ℕ) (request : Asked) → ((fault : RequestFault) → request ≡ asks.Illegal fault → ⊥) →
    ((transfer : Moved) → request ≡ asks.Blocks transfer → ⊥) → request_as request ≡ request_of g (Raw cdb bytes) → ⊥
raw-only g cdb bytes request not_illegal not_blocks is = not-of_host request not_illegal not_blocks (subst IsOfHost (sym is) (raw-of_host g cdb bytes))
