-- What becomes of a piece of a call of a host when it is begun over a bus: what the book decides of its blocks, over the entries
-- before it, the newest first.
use Rattle.std.specs.Prelude.{◌≡◌, ◌==◌, ℕ, min, List, Option, Some, None, option_map, slice_get, if◌then◌else◌}
use Rattle.stripe_layout.specs.declared.pieces.Piece.{Piece}
use Rattle.stripe_layout.specs.Pieces.{pieces_of}
use Rattle.array_journal.specs.declared.entry.Entry.{Entry}
use Rattle.array_journal.specs.declared.event.Event.{Event}
use Rattle.array_journal.specs.declared.event.Event.TheVariants.{Open, Swap, Refuse}
use Rattle.array_journal.specs.declared.event.Why.TheVariants.{Illegal}
use Rattle.array_journal.specs.Decision.{decision}
use Rattle.host_scripts.specs.declared.script.Script.{Script}
use Rattle.host_requests.specs.Begins.{Aim, Begin, Opening, Refusal, Swapping, piece_aim, begin_decided, begin_request}
use Rattle.host_requests.specs.Requests.{Request, Fails, Moves, Transfer}
use Rattle.host_requests.specs.Settings.{setting_of, most_blocks}
use Rattle.unit_plans.specs.Buses.{BusSetting}

-- The most blocks of a command: as many as a buffer holds, and no more than the maximum XOR write size, where zero means no
-- maximum. That a piece ends with its unit is the layout's matter.
abbrev pub most_of : BusSetting → ℕ
most_of b = if b.max_write == 0 then b.array.buffer else min b.array.buffer b.max_write

-- the pieces of blocks that are read or written
abbrev pub pieces_by : BusSetting → Transfer → List Piece
pieces_by b t = pieces_of b.array.geometry (most_of b) t.lba t.count

-- a call of a host: its blocks are moved, or it fails a test
abbrev pub IsOfHost : Request → Type 0
IsOfHost (Fails sense) = Unit {0}
IsOfHost (Moves t) = Unit {0}
IsOfHost _ = ⊥

-- what the book decides of some rows
abbrev pub begin_aim_on : BusSetting → ℕ → ℕ → List Entry → Aim → Begin
begin_aim_on b call piece past aim = begin_decided b.array.geometry call piece aim (decision b.array aim.want aim.stripe aim.target past)

-- A call that fails a test is refused, as piece 0. Of blocks that are moved, each piece is as the book decides.
abbrev pub begin_on : BusSetting → ℕ → ℕ → List Entry → Request → Option Begin
begin_on b call piece past (Fails sense) = if piece == 0 then Some (Refusal (Illegal sense)) else None
begin_on b call piece past (Moves t) =
    option_map (λ (blocks : Piece). begin_aim_on b call piece past (piece_aim b.array.geometry t blocks)) (slice_get (pieces_by b t) piece)
begin_on b call piece past _ = None

-- an opening has the task of its call and piece; it, a refusal and a swap are what becomes of the piece
abbrev pub IsBegunAs : BusSetting → Request → Event → List Entry → Type 0
IsBegunAs b request (Open command task) past = begin_on b task.call task.piece past request ≡ Some (Opening task)
IsBegunAs b request (Refuse call piece why) past = begin_on b call piece past request ≡ Some (Refusal why)
IsBegunAs b request (Swap slot call) past = begin_on b call 0 past request ≡ Some (Swapping slot)
IsBegunAs b request _ past = Unit {0}

-- It is what a judge of a script's journal asks, where the bus is set as the script says.
abbrev pub PiecesAreBegunAsAsked : Type 0
PiecesAreBegunAsAsked =
    (script : Script) (b : BusSetting) (call piece : ℕ) (past : List Entry) (request : Request) → b.array ≡ setting_of script → most_of b ≡ most_blocks script →
    IsOfHost request → begin_on b call piece past request ≡ begin_request script call piece past request
