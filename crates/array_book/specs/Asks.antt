-- What a piece that the book is asked about is: its rows, its blocks, and the task that a command is opened with for it.
use Rattle.std.specs.Prelude.{◌≡◌, ◌<◌, ◌≤◌, ◌*◌, ℕ, List, [], length, Result, Ok, Err}
use Rattle.sense_data.specs.declared.senses.Sense.{Sense}
use Rattle.stripe_layout.specs.declared.geometry.Geometry.{Geometry}
use Rattle.stripe_layout.specs.declared.pieces.Piece.{Piece}
use Rattle.stripe_layout.specs.Layout.{capacity_of, place_of, room_in_unit, stripes_of, first_row, unit_rows, parity_of}
use Rattle.array_journal.specs.declared.decision.Decision.{Decision}
use Rattle.array_journal.specs.declared.decision.Decision.TheVariants.{Refuses}
use Rattle.array_journal.specs.declared.decision.Want.{Want as Service}
use Rattle.array_journal.specs.declared.decision.Want.TheVariants as services
use Rattle.array_journal.specs.declared.entry.Entry.{Entry}
use Rattle.array_journal.specs.declared.event.Why.TheVariants.{Illegal}
use Rattle.array_journal.specs.declared.setting.Setting.{Setting}
use Rattle.array_journal.specs.declared.task.Kind.{Kind}
use Rattle.array_journal.specs.declared.task.Task.{Task}
use Rattle.array_journal.specs.Decision.{decision}
use Rattle.array_book.specs.declared.asks.Aim.{Aim}
use Rattle.array_book.specs.declared.asks.Ask.{Ask}
use Rattle.array_book.specs.declared.asks.Want.{Want}
use Rattle.array_book.specs.declared.asks.Want.TheVariants.{Read, Write, Rebuild, Resync, Illegal as Fails}

-- a piece is some blocks of one data unit, at least one and no more than a buffer has room for
pub record IsPiece (s : Setting) (piece : Piece) : Type 0 where
  pub in_array : piece.first < capacity_of s.geometry
  pub placed : piece.place ≡ place_of s.geometry piece.first
  pub some : 1 ≤ piece.count
  pub in_unit : piece.count ≤ room_in_unit s.geometry piece.first
  pub in_buffer : piece.count ≤ s.buffer

-- what is asked is of the array, and a write has as many bytes as its blocks
abbrev pub IsWant : Setting → Want → Type 0
IsWant s (Read piece) = IsPiece s piece
IsWant s (Write piece bytes) = IsPiece s piece × (length bytes ≡ piece.count * s.geometry.block)
IsWant s (Rebuild slot stripe) = (slot < s.geometry.targets) × (stripe < stripes_of s.geometry)
IsWant s (Resync stripe) = stripe < stripes_of s.geometry
IsWant s (Fails sense) = Unit {0}

-- the rows of a piece
abbrev pub piece_aim : Service → Piece → Aim
piece_aim want piece =
    record { want = want; stripe = piece.place.stripe; target = piece.place.target; row = piece.place.row; count = piece.count }

-- all rows of a stripe, at a target
abbrev pub unit_aim : Geometry → Service → ℕ → ℕ → Aim
unit_aim g want stripe target =
    record { want = want; stripe = stripe; target = target; row = first_row g stripe; count = unit_rows g stripe }

-- what is asked about; a failed test is about no rows, and has its sense
abbrev pub aim_of : Geometry → Want → Result Aim Sense
aim_of g (Read piece) = Ok (piece_aim services.Read piece)
aim_of g (Write piece bytes) = Ok (piece_aim services.Write piece)
aim_of g (Rebuild slot stripe) = Ok (unit_aim g services.Rebuild stripe slot)
aim_of g (Resync stripe) = Ok (unit_aim g services.Resync stripe (parity_of g stripe))
aim_of g (Fails sense) = Err sense

-- the blocks that come with a write
abbrev pub bytes_of : Want → List ℕ
bytes_of (Write piece bytes) = bytes
bytes_of _ = []

-- what the book decides over these entries, the newest first: by its table, and a failed test is refused
abbrev pub decided_at : Setting → List Entry → Result Aim Sense → Decision
decided_at s past (Ok aim) = decision s aim.want aim.stripe aim.target past
decided_at s past (Err sense) = Refuses (Illegal sense)

abbrev pub decided : Setting → List Entry → Want → Decision
decided s past want = decided_at s past (aim_of s.geometry want)

-- the task of a command of a kind, at some rows
abbrev pub task_at : Geometry → ℕ → ℕ → Kind → Aim → List ℕ → Task
task_at g call piece kind aim bytes = record {
  call = call;
  piece = piece;
  kind = kind;
  stripe = aim.stripe;
  target = aim.target;
  parity = parity_of g aim.stripe;
  row = aim.row;
  count = aim.count;
  bytes = bytes;
}

-- there are rows, and the task is that of a command of this kind for what is asked
abbrev pub IsTaskAt : Geometry → Ask → Kind → Result Aim Sense → Task → Type 0
IsTaskAt g ask kind (Ok aim) task = task ≡ task_at g ask.call ask.piece kind aim (bytes_of ask.want)
IsTaskAt g ask kind (Err sense) task = ⊥

abbrev pub IsTaskFor : Geometry → Ask → Kind → Task → Type 0
IsTaskFor g ask kind task = IsTaskAt g ask kind (aim_of g ask.want) task
