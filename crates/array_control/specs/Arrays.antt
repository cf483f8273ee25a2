-- What an array is set to, and how far it has come with a call of a host. A journal has the newest entry first here: it is all
-- entries of a bus that is alone.
use Rattle.std.specs.Prelude.{◌≡◌, ◌≢◌, ◌++◌, ◌≤◌, ◌+◌, ◌-◌, ◌*◌, ℕ, Bool, true, false, List, ◌∷◌, length, slice_get, Option, Some, None}
use Rattle.blocks_core.specs.Lists.{slice}
use Rattle.stripe_layout.specs.declared.geometry.Geometry.{Geometry}
use Rattle.stripe_layout.specs.declared.mode.Mode.{Mode}
use Rattle.stripe_layout.specs.declared.pieces.Piece.{Piece}
use Rattle.stripe_layout.specs.Layout.{capacity_of}
use Rattle.stripe_layout.specs.Modes.{sends_delta}
use Rattle.array_journal.specs.declared.decision.Want.{Want}
use Rattle.array_journal.specs.declared.decision.Want.TheVariants.{Read, Write}
use Rattle.array_journal.specs.declared.entry.Entry.{Entry}
use Rattle.array_journal.specs.Calls.{is_of_call}
use Rattle.array_journal.specs.Laws.{lane}
use Rattle.array_journal.specs.Run.{Grows, IsSetting}
use Rattle.array_book.specs.declared.asks.Ask.{Ask}
use Rattle.array_book.specs.declared.asks.Want.{Want as BookWant}
use Rattle.array_book.specs.declared.asks.Want.TheVariants as asks
use Rattle.array_book.specs.Asks.{IsWant}
use Rattle.array_book.specs.BookAnswers.{HasToWait}
use Rattle.host_requests.specs.Requests.{Request, Moves, Transfer, bytes_due}
use Rattle.host_requests.specs.Forms.{transfer_as}
use Rattle.unit_plans.specs.declared.doings.Do.{Do}
use Rattle.unit_plans.specs.declared.doings.Do.TheVariants as dos
use Rattle.unit_plans.specs.declared.doings.Reply.TheVariants as replies
use Rattle.unit_plans.specs.declared.doings.Said.{Said}
use Rattle.unit_plans.specs.declared.doings.Said.TheVariants as says
use Rattle.unit_plans.specs.Buses.{BusSetting}
use Rattle.unit_plans.specs.Effects.{IsDoneAt, IsDoneInBook}
use Rattle.unit_plans.specs.Follows.{HasAsked, HasGrown, IsTold, IsUndisturbed}
use Rattle.unit_plans.specs.Plans.{PlanState, IsPlan, HasNext}
use Rattle.array_control.specs.declared.call_run.CallRun.{CallRun}
use Rattle.array_control.specs.declared.call_run.PieceRun.{PieceRun}
use Rattle.array_control.specs.declared.serving.Advanced.{Advanced}
use Rattle.array_control.specs.declared.serving.Advanced.TheVariants.{Made, Blocked}
use Rattle.array_control.specs.ApartLaws.{IsOfThis}
use Rattle.array_control.specs.Begins.{IsBegunAs, most_of, pieces_by}
use Rattle.array_control.specs.Progress.{HasCome, IsServing}

-- ---- the array

-- an array over a bus has the bus's geometry and mode, and the most blocks of a command there
pub record IsArrayOf (b : BusSetting) (geometry : Geometry) (mode : Mode) (max : ℕ) : Type 0 where
  pub geometry_is : geometry ≡ b.array.geometry
  pub mode_is : mode ≡ b.array.mode
  pub max_is : max ≡ most_of b

-- What holds for now of each bus that an array acts over, as its plans have no other answers yet: one caller alone acts there, no
-- medium fails, no target sends its delta, nothing befell a target; and its entries are a run.
pub record IsCalm (alone reliable : Bool) (b : BusSetting) (journal : List Entry) : Type 0 where
  pub is_alone : alone ≡ true
  pub is_reliable : reliable ≡ true
  pub planned : sends_delta b.array.mode ≡ false
  pub in_range : IsSetting b.array
  pub runs : Grows b.array journal
  pub undisturbed : IsUndisturbed journal

-- ---- a call

abbrev pub IsMove : Want → Type 0
IsMove Read = Unit {0}
IsMove Write = Unit {0}
IsMove _ = ⊥

-- blocks within the capacity are read, or written with as many bytes
pub record IsTransferOf (b : BusSetting) (t : Transfer) : Type 0 where
  pub moves : IsMove t.want
  pub within : t.lba + t.count ≤ capacity_of b.array.geometry
  pub due : length t.bytes ≡ bytes_due b.array.geometry t.want t.count

-- a command serves a piece: its plan follows it, and the call was told what the plan will reply
pub record IsServedBy (b : BusSetting) (n count piece : ℕ) (read : List ℕ) (doing : PieceRun) (journal : List Entry) : Type 0 where
  pub more : List ℕ
  pub serving : IsServing b.array.geometry n count piece read doing.plan.command doing.plan.task more journal
  pub plan : IsPlan doing.plan
  pub asked : HasAsked b doing.plan doing.next journal
  pub told : more ≡ doing.plan.bytes

abbrev pub IsAtPiece : BusSetting → ℕ → ℕ → ℕ → List ℕ → Option PieceRun → List Entry → Type 0
IsAtPiece b n count piece read None journal = HasCome b.array.geometry n count piece read journal
IsAtPiece b n count piece read (Some doing) journal = IsServedBy b n count piece read doing journal

-- how far a call has come
pub record IsUnderWay (b : BusSetting) (run : CallRun) (journal : List Entry) : Type 0 where
  pub transfer : IsTransferOf b (transfer_as run.transfer)
  pub counted : run.count ≡ length (pieces_by b (transfer_as run.transfer))
  pub at_piece : IsAtPiece b run.number run.count run.piece run.read run.doing journal

-- the same call
pub record IsSameCall (old new : CallRun) : Type 0 where
  pub number : new.number ≡ old.number
  pub transfer : new.transfer ≡ old.transfer
  pub count : new.count ≡ old.count

-- ---- what a step of a call comes to

-- it is an act, and not a reply
abbrev pub IsAct : Do → Type 0
IsAct (dos.Target number act) = Unit {0}
IsAct (dos.Book act) = Unit {0}
IsAct _ = ⊥

-- an act of a plan was done
abbrev pub DidDo : BusSetting → Do → Said → List Entry → List Entry → Type 0
DidDo b (dos.Target number act) (says.Target acted) journal now = IsDoneAt true true b number act acted journal journal now now
DidDo b (dos.Book act) (says.Book acted) journal now = IsDoneInBook true b act acted journal journal now now
DidDo b _ _ journal now = ⊥

-- a plan was told what came of what it asked for, and asked for more
pub record WentOn (b : BusSetting) (old : PlanState) (new : PieceRun) (journal now : List Entry) : Type 0 where
  pub said : Option Said
  pub told : IsTold b old said now
  pub next : HasNext old said new.next new.plan
  pub grown : HasGrown journal now
  pub undisturbed : IsUndisturbed now

-- what is asked of the book about a piece of blocks that are read, or written with these bytes
abbrev pub want_for : Want → Piece → List ℕ → BookWant
want_for Write piece bytes = asks.Write piece bytes
want_for _ piece bytes = asks.Read piece

-- the part of the bytes that came with a call that is a piece's
abbrev pub part_of : Geometry → Transfer → Piece → List ℕ
part_of g t blocks = slice t.bytes ((blocks.first - t.lba) * g.block) (blocks.count * g.block)

-- This is asked about a piece of a call. Its blocks are no more than the maximum of XOR writes, where there is one.
pub record IsAskFor (b : BusSetting) (n : ℕ) (t : Transfer) (piece : ℕ) (ask : Ask) : Type 0 where
  pub blocks : Piece
  pub at : slice_get (pieces_by b t) piece ≡ Some blocks
  pub call : ask.call ≡ n
  pub piece_is : ask.piece ≡ piece
  pub want : ask.want ≡ want_for t.want blocks (part_of b.array.geometry t blocks)
  pub sound : IsWant b.array ask.want
  pub most : b.max_write ≢ 0 → blocks.count ≤ b.max_write

-- a piece is asked of the book, and by the book's entries it has to wait for this command
pub record HasToWaitFor (b : BusSetting) (n : ℕ) (t : Transfer) (piece by : ℕ) (journal : List Entry) : Type 0 where
  pub ask : Ask
  pub asked : IsAskFor b n t piece ask
  pub waits : HasToWait b.array (lane 0 journal) ask by

-- the next act of a call is to begin its piece, which has to wait for this command
pub record IsHeldUpBy (b : BusSetting) (run : CallRun) (by : ℕ) (journal : List Entry) : Type 0 where
  pub idle : run.doing ≡ None
  pub waits : HasToWaitFor b run.number (transfer_as run.transfer) run.piece by journal

-- An entry is of this call and of no other; and where it begins a piece, that is as the book decides of what is asked.
pub record IsEntryFor (b : BusSetting) (n : ℕ) (request : Request) (e : Entry) (past : List Entry) : Type 0 where
  pub of_this : IsOfThis n e past
  pub own : (k : ℕ) → k ≢ n → is_of_call k e.event ≡ false
  pub begun : IsBegunAs b request e.event past

-- one entry came, which is of this call
pub record HasGrownBy (b : BusSetting) (n : ℕ) (request : Request) (journal now : List Entry) : Type 0 where
  pub entry : Entry
  pub newest : now ≡ entry ∷ journal
  pub is_for : IsEntryFor b n request entry journal

-- One entry was made, by which the call has come further; or its piece has to wait, and nothing was done.
abbrev pub ComesTo : BusSetting → CallRun → Advanced → CallRun → List Entry → List Entry → Type 0
ComesTo b old Made new journal now = HasGrownBy b old.number (Moves (transfer_as old.transfer)) journal now × (IsUnderWay b new now × IsSameCall old new)
ComesTo b old (Blocked by) new journal now = (now ≡ journal) × ((new ≡ old) × IsHeldUpBy b old by journal)

-- a plan that comes to its end asks for an act, or replies what was read
abbrev pub ActsOrReads : Do → Type 0
ActsOrReads (dos.Target number act) = Unit {0}
ActsOrReads (dos.Book act) = Unit {0}
ActsOrReads (dos.Reply (replies.Good bytes)) = Unit {0}
ActsOrReads _ = ⊥

-- A call with what a plan has asked for: where that is a reply, its bytes were read and the piece is done; else it is done next.
abbrev pub kept_by : CallRun → PieceRun → Do → CallRun
kept_by run doing (dos.Reply (replies.Good bytes)) = record run { read = run.read ++ bytes; piece = run.piece + 1 }
kept_by run doing _ = record run { doing = Some doing }
