-- What the program knows of a stream between two items of it.
use Rattle.std.specs.Prelude.{◌≡◌, ◌+◌, ◌≤◌, ◌<◌, ℕ, List, [], ◌∷◌, ◌++◌, length, Option, Some, None}
use Rattle.host_scripts.specs.declared.bench.BenchLine.{BenchLine}
use Rattle.host_scripts.specs.BenchLimits.{moved_by_action}
use Rattle.target_frames.specs.declared.items.Item.{Item}
use Rattle.target_frames.specs.declared.items.Item.TheVariants.{Opening}
use Rattle.target_frames.specs.Frames as readings
use Rattle.target_frames.specs.Frames.{all_told}
use Rattle.target_frames.specs.State.{State, Follows, IsReading}
use Rattle.bench_runs.specs.BenchRuns.{first_targets}
use Rattle.bench_runs.specs.Ready.{IsReady}
use Rattle.target_service.specs.declared.findings.ServiceLimit.{ServiceLimit}
use Rattle.target_service.specs.declared.findings.ServiceFinding.{ServiceFinding}
use Rattle.target_service.specs.declared.findings.ServiceFinding.TheVariants.{Refused, Ended, Over}
use Rattle.target_service.specs.declared.findings.ServiceStop.{ServiceStop}
use Rattle.target_service.specs.declared.open_service.OpenService.{OpenService}
use Rattle.target_service.specs.Answered.{bench_of, IsDone, AreReplied, AreServed}
use Rattle.target_service.specs.Limits.{limit_in, passed, moved_by_all}
use Rattle.target_service.specs.Found.{IsFoundServed}
use Rattle.target_service.specs.Served.{IsBegun}
use Rattle.target_service.specs.Stops.{StopsServing}

-- ---- the opening

-- an opening by itself passes a limit
abbrev pub TooMuch : ℕ → ℕ → ℕ → ℕ → ServiceFinding → Type 0
TooMuch targets block buffer rows (Refused byte) = ⊥
TooMuch targets block buffer rows (Ended byte) = ⊥
TooMuch targets block buffer rows (Over limit) = limit_in (Opening targets block buffer rows ∷ []) ≡ Some limit

-- ---- one frame

-- numbers within the limits, so that sums of them fit, and targets that are ready for the next frame
pub record IsCounting (s : OpenService) : Type 0 where
  pub some_block : 1 ≤ s.block
  pub small_block : s.block ≤ 4096
  pub few_rows : s.rows ≤ 65536
  pub few_frames : s.frames ≤ 1000000
  pub few_moved : s.moved ≤ 67108864
  pub ready : IsReady (s.frames + 1) s.row

-- the blocks that are moved with a line
abbrev pub moved_with : OpenService → BenchLine → ℕ
moved_with s l = s.moved + moved_by_action s.rows l.action

-- the next line is done and replied to, and counted
pub record IsReplyTo (old : OpenService) (l : BenchLine) (new : OpenService) (reply : List ℕ) : Type 0 where
  pub done : IsDone (old.frames + 1) old.row l new.row reply
  pub frames : new.frames ≡ old.frames + 1
  pub moved : new.moved ≡ moved_with old l
  pub rows : new.rows ≡ old.rows
  pub block : new.block ≡ old.block
  pub still : length new.row ≡ length old.row
  pub within : passed old.block (old.frames + 1) (moved_with old l) ≡ None

-- the next line passes a limit
abbrev pub Passes : OpenService → BenchLine → ServiceFinding → Type 0
Passes s l (Refused byte) = ⊥
Passes s l (Ended byte) = ⊥
Passes s l (Over limit) = passed s.block (s.frames + 1) (moved_with s l) ≡ Some limit

-- ---- items that were handed out

-- what is kept behind an opening and frames that were replied to
pub record IsOpen (s : OpenService) (items : List Item) (replies : List ℕ) : Type 0 where
  pub count : ℕ
  pub bytes : ℕ
  pub buffer : ℕ
  pub all : ℕ
  pub behind : List Item
  pub whole : items ≡ Opening count bytes buffer all ∷ behind
  pub within : limit_in items ≡ None
  pub replied : AreReplied 1 (first_targets (bench_of count bytes buffer all)) behind s.row replies
  pub block : s.block ≡ bytes
  pub rows : s.rows ≡ all
  pub frames : s.frames ≡ length behind
  pub moved : s.moved ≡ moved_by_all all behind

-- these items were taken, and these replies given
abbrev pub HasServed : Option OpenService → List Item → List ℕ → Type 0
HasServed None items replies = (items ≡ []) × (replies ≡ [])
HasServed (Some s) items replies = IsOpen s items replies

abbrev pub AreCounting : Option OpenService → Type 0
AreCounting None = Unit {0}
AreCounting (Some s) = IsCounting s

-- how many targets there are, as soon as an opening told it
abbrev pub known_of : Option OpenService → Option ℕ
known_of None = None
known_of (Some s) = Some (length s.row)

-- a frame's target is among them
abbrev pub Asks : Option OpenService → BenchLine → Type 0
Asks None l = Unit {0}
Asks (Some s) l = l.target < length s.row

abbrev pub HasReplied : Option OpenService → BenchLine → Option OpenService → List ℕ → Type 0
HasReplied None l new reply = ⊥
HasReplied (Some s) l None reply = ⊥
HasReplied (Some s) l (Some t) reply = IsReplyTo s l t reply

abbrev pub HasPassed : Option OpenService → BenchLine → ServiceFinding → Type 0
HasPassed None l finding = ⊥
HasPassed (Some s) l finding = Passes s l finding

-- whatever was served before, these items behind it are served with these replies
abbrev pub Goes : Option OpenService → Option OpenService → List Item → List ℕ → Type 0
Goes old new items replies = (before : List Item) (sent : List ℕ) → HasServed old before sent → HasServed new (before ++ items) (sent ++ replies)

-- ---- where a service is stopped

-- these are the replies to the first of the items
pub record IsPart (given : List Item) (replies : List ℕ) : Type 0 where
  pub items : List Item
  pub more : List Item
  pub parted : given ≡ items ++ more
  pub within : limit_in items ≡ None
  pub served : AreServed items replies

-- the item behind these passes a limit
pub record PassesIn (given : List Item) (replies : List ℕ) (limit : ServiceLimit) : Type 0 where
  pub items : List Item
  pub item : Item
  pub more : List Item
  pub parted : given ≡ items ++ item ∷ more
  pub within : limit_in items ≡ None
  pub passes : limit_in (items ++ item ∷ []) ≡ Some limit
  pub served : AreServed items replies

abbrev pub IsPast : List Item → List ℕ → ServiceFinding → Type 0
IsPast given replies (Refused byte) = ⊥
IsPast given replies (Ended byte) = ⊥
IsPast given replies (Over limit) = PassesIn given replies limit

-- it was stopped among these items
abbrev pub StopsIn : List Item → List ℕ → ServiceStop → Type 0
StopsIn given replies stop = StopsServing (IsPart given replies) (IsPast given replies) stop

-- whatever was served before, it was stopped among these items behind it
abbrev pub Halts : Option OpenService → List Item → List ℕ → ServiceStop → Type 0
Halts old items replies stop = (before : List Item) (sent : List ℕ) → HasServed old before sent → StopsIn (before ++ items) (sent ++ replies) stop

-- ---- bytes that were read

-- what is known behind these bytes of a stream, with these replies given
pub record IsAt (read replies : List ℕ) (reader : State) (service : Option OpenService) : Type 0 where
  pub given : List Item
  pub follows : Follows read given reader
  pub reading : IsReading reader
  pub known : known_of service ≡ all_told None given
  pub served : HasServed service given replies

-- the same where a field at this byte is refused, and the items before it wait
pub record IsHeldBack (read replies : List ℕ) (reader : State) (service : Option OpenService) (byte : ℕ) : Type 0 where
  pub given : List Item
  pub follows : Follows read given reader
  pub refused : reader.end ≡ readings.Refused byte
  pub known : known_of service ≡ all_told None given
  pub served : HasServed service given replies

-- this is found of a stream, whatever follows; its end isn't known yet
abbrev pub IsFoundAhead : List ℕ → List ℕ → ServiceFinding → Type 0
IsFoundAhead stream replies (Refused byte) = IsFoundServed stream (Refused byte) replies
IsFoundAhead stream replies (Ended byte) = ⊥
IsFoundAhead stream replies (Over limit) = IsFoundServed stream (Over limit) replies

-- it was stopped in this beginning of a stream
abbrev pub StopsStream : List ℕ → List ℕ → ServiceStop → Type 0
StopsStream stream replies stop = StopsServing (IsBegun stream replies) (IsFoundAhead stream replies) stop
