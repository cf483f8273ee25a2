-- What a piece of a request asks, and what becomes of it.
use Rattle.std.specs.Prelude.{ℕ, List, if◌then◌else◌}
use Rattle.array_journal.specs.declared.entry.Entry.{Entry}
use Rattle.array_journal.specs.declared.event.Why.TheVariants as causes
use Rattle.array_journal.specs.Lives.{is_unfitted}
use Rattle.host_scripts.specs.declared.script.Script.{Script}
use Rattle.host_requests.specs.Begins as begins
use Rattle.host_requests.specs.Begins.{begin_aim}
use Rattle.host_requests.specs.Forms.{sense_of, aim_as}
use Rattle.host_requests.specs.declared.begins.PieceRequest.{PieceRequest}
use Rattle.host_requests.specs.declared.begins.PieceRequest.TheVariants.{Refuse, Swap, Serve}

-- What becomes of it after these entries, the newest first: a call that fails a test is refused, a slot's disk is swapped
-- where it is noted lost and has no new one, and else the book decides.
abbrev pub begin_piece : Script → ℕ → ℕ → List Entry → PieceRequest → begins.Begin
begin_piece script call piece past (Refuse fault) = begins.Refusal (causes.Illegal (sense_of fault))
begin_piece script call piece past (Swap slot) = if is_unfitted slot past then begins.Swapping slot else begins.Refusal causes.NotLost
begin_piece script call piece past (Serve aim) = begin_aim script call piece past (aim_as aim)
