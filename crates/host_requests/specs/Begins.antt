-- What becomes of a piece of a call when it is begun: the task that is opened for it, or why it is refused. So it is
-- with the swap of a disk.
use Rattle.std.specs.Prelude.{ℕ, ◌-◌, ◌*◌, ◌==◌, nat_lt, if◌then◌else◌, List, [], Option, Some, None, option_map, slice_get}
use Rattle.stripe_layout.specs.declared.geometry.Geometry.{Geometry}
use Rattle.stripe_layout.specs.declared.pieces.Piece.{Piece}
use Rattle.stripe_layout.specs.Layout.{stripes_of, parity_of}
use Rattle.stripe_layout.specs.Pieces.{pieces_of}
use Rattle.array_journal.specs.declared.entry.Entry.{Entry}
use Rattle.array_journal.specs.declared.event.Why.{Why}
use Rattle.array_journal.specs.declared.event.Why.TheVariants.{Illegal, NotLost}
use Rattle.array_journal.specs.declared.task.Kind.{Kind}
use Rattle.array_journal.specs.declared.task.Task.{Task}
use Rattle.array_journal.specs.declared.decision.Want.{Want}
use Rattle.array_journal.specs.declared.decision.Want.TheVariants.{Rebuild as WantsRebuild, Resync as WantsResync}
use Rattle.array_journal.specs.declared.decision.Decision.{Decision}
use Rattle.array_journal.specs.declared.decision.Decision.TheVariants.{Opens, Refuses}
use Rattle.array_journal.specs.Decision.{decision}
use Rattle.blocks_core.specs.Lists.{slice}
use Rattle.array_journal.specs.Lives.{is_unfitted}
use Rattle.array_book.specs.Asks as asks
use Rattle.array_book.specs.Asks.{task_at}
use Rattle.host_scripts.specs.declared.script.Call.{Call}
use Rattle.host_scripts.specs.declared.script.Script.{Script}
use Rattle.host_requests.specs.Requests.{Request, Fails, Moves, Loses, Wipes, Replaces, Rebuilds, Resyncs, Transfer, bytes_due, request_of, call_at}
use Rattle.host_requests.specs.Settings.{setting_of, most_blocks}

-- what a piece is about: so many rows of a target's unit in a stripe, and the new blocks of a write
pub record Aim : Type 0 where
  pub want : Want
  pub stripe : ℕ
  pub target : ℕ
  pub row : ℕ
  pub count : ℕ
  pub bytes : List ℕ

-- the pieces of blocks that are read or written
abbrev pub transfer_pieces : Script → Transfer → List Piece
transfer_pieces script t = pieces_of script.geometry (most_blocks script) t.lba t.count

-- the rows of a piece, and its part of the bytes that came
abbrev pub piece_aim : Geometry → Transfer → Piece → Aim
piece_aim g t piece =
    let rows = asks.piece_aim t.want piece in
    let bytes = slice t.bytes ((piece.first - t.lba) * g.block) (bytes_due g t.want piece.count) in
    record { want = rows.want; stripe = rows.stripe; target = rows.target; row = rows.row; count = rows.count; bytes = bytes }

-- a whole unit of a stripe
abbrev pub unit_aim : Geometry → Want → ℕ → ℕ → Aim
unit_aim g want stripe target =
    let rows = asks.unit_aim g want stripe target in
    record { want = rows.want; stripe = rows.stripe; target = rows.target; row = rows.row; count = rows.count; bytes = [] }

-- the piece of a call is the unit in the stripe of its number
abbrev pub stripe_aim : Geometry → Want → ℕ → ℕ → Option Aim
stripe_aim g want stripe target = if nat_lt stripe (stripes_of g) then Some (unit_aim g want stripe target) else None

-- what a piece of a request is about, where the request has this piece
abbrev pub aim_of : Script → Request → ℕ → Option Aim
aim_of script (Moves t) piece = option_map (piece_aim script.geometry t) (slice_get (transfer_pieces script t) piece)
aim_of script (Rebuilds slot) piece = stripe_aim script.geometry WantsRebuild piece slot
aim_of script Resyncs piece = stripe_aim script.geometry WantsResync piece (parity_of script.geometry piece)
aim_of script (Fails sense) piece = None
aim_of script (Loses target) piece = None
aim_of script (Wipes target what) piece = None
aim_of script (Replaces slot) piece = None

-- the task of a piece of a call, as the book has it for the rows of the aim
abbrev pub task_of_piece : Geometry → ℕ → ℕ → Aim → Kind → Task
task_of_piece g call piece aim kind =
    task_at g call piece kind (record { want = aim.want; stripe = aim.stripe; target = aim.target; row = aim.row; count = aim.count }) aim.bytes

-- a command is opened, a piece is refused, or a slot's disk is swapped
pub data Begin : Type 0 where
  Opening : Task → Begin
  Refusal : Why → Begin
  Swapping : ℕ → Begin

abbrev pub begin_decided : Geometry → ℕ → ℕ → Aim → Decision → Begin
begin_decided g call piece aim (Opens kind) = Opening (task_of_piece g call piece aim kind)
begin_decided g call piece aim (Refuses why) = Refusal why

-- what the book decides over the missing units and the listed stripes of these entries, the newest first
abbrev pub begin_aim : Script → ℕ → ℕ → List Entry → Aim → Begin
begin_aim script call piece past aim =
    begin_decided script.geometry call piece aim (decision (setting_of script) aim.want aim.stripe aim.target past)

-- A call that fails a test is refused, as piece 0. A new disk is put in where its slot is noted lost and has none yet, and
-- is refused elsewhere, as piece 0. Each piece of the other calls is as the book decides.
abbrev pub begin_request : Script → ℕ → ℕ → List Entry → Request → Option Begin
begin_request script call piece past (Fails sense) = if piece == 0 then Some (Refusal (Illegal sense)) else None
begin_request script call piece past (Replaces slot) =
    if piece == 0 then Some (if is_unfitted slot past then Swapping slot else Refusal NotLost) else None
begin_request script call piece past job = option_map (begin_aim script call piece past) (aim_of script job piece)

abbrev pub begin_call : Script → ℕ → ℕ → List Entry → Option Call → Option Begin
begin_call script number piece past None = None
begin_call script number piece past (Some call) = begin_request script number piece past (request_of script.geometry call.action)

-- what becomes of a piece of the call of a number, where there is such a piece
abbrev pub begin_of : Script → ℕ → ℕ → List Entry → Option Begin
begin_of script number piece past = begin_call script number piece past (call_at script.calls number)
