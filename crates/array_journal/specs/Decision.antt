-- What the book decides: how a piece is served, which commands stand in its way, and whether a buffer has room.
use Rattle.std.specs.Prelude.{◌==◌, ◌&&◌, nat_le, not, ℕ, ◌+◌, Bool, true, false, List, [], ◌∷◌, Option, Some, None, length, if◌then◌else◌}
use Rattle.stripe_layout.specs.Layout.{parity_of}
use Rattle.stripe_layout.specs.Modes.{update_needs_room, target_gathers}
use Rattle.array_journal.specs.declared.decision.Decision.{Decision}
use Rattle.array_journal.specs.declared.decision.Decision.TheVariants.{Opens, Refuses}
use Rattle.array_journal.specs.declared.decision.Want.{Want}
use Rattle.array_journal.specs.declared.decision.Want.TheVariants.{Read as WantsRead, Write as WantsWrite, Rebuild as WantsRebuild, Resync as WantsResync}
use Rattle.array_journal.specs.declared.entry.Entry.{Entry}
use Rattle.array_journal.specs.declared.event.Event.{Event}
use Rattle.array_journal.specs.declared.event.Event.TheVariants.{Open}
use Rattle.array_journal.specs.declared.event.Why.TheVariants.{Medium, NotReady, Unfitted, Present, Listed, Second, Clean, Absent}
use Rattle.array_journal.specs.declared.setting.Setting.{Setting}
use Rattle.array_journal.specs.declared.task.Kind.{Kind}
use Rattle.array_journal.specs.declared.task.Kind.TheVariants.{Read, Update, DataOnly, DegradedRead, DegradedWrite, Rebuild, Resync}
use Rattle.array_journal.specs.declared.task.Task.{Task}
use Rattle.array_journal.specs.Acts.{gatherer, targets_that}
use Rattle.array_journal.specs.Commands.{is_open, tasks_conflict}
use Rattle.array_journal.specs.Listed.{is_listed}
use Rattle.array_journal.specs.Lives.{is_missing, is_unfitted}

-- what the commands of a kind are opened for
abbrev pub want_of : Kind → Want
want_of Read = WantsRead
want_of DegradedRead = WantsRead
want_of Update = WantsWrite
want_of DataOnly = WantsWrite
want_of DegradedWrite = WantsWrite
want_of Rebuild = WantsRebuild
want_of Resync = WantsResync

-- how many units of a stripe are missing
abbrev pub missing_count : Setting → ℕ → List Entry → ℕ
missing_count s stripe past = length (targets_that s (λ i. is_missing i stripe past))

-- How a piece at target i of a stripe is served, by the first line that applies.
abbrev pub decision : Setting → Want → ℕ → ℕ → List Entry → Decision
decision s WantsRead stripe i past =
    if is_missing i stripe past && is_listed stripe past then Refuses Medium
    else if nat_le 2 (missing_count s stripe past) then Refuses NotReady
    else if not (is_missing i stripe past) then Opens Read
    else Opens DegradedRead
decision s WantsWrite stripe i past =
    if is_missing i stripe past && is_listed stripe past then Refuses Medium
    else if nat_le 2 (missing_count s stripe past) then Refuses NotReady
    else if is_missing i stripe past then Opens DegradedWrite
    else if is_missing (parity_of s.geometry stripe) stripe past then Opens DataOnly
    else Opens Update
decision s WantsRebuild stripe i past =
    if is_unfitted i past then Refuses Unfitted
    else if not (is_missing i stripe past) then Refuses Present
    else if is_listed stripe past && not (i == parity_of s.geometry stripe) then Refuses Listed
    else if nat_le 2 (missing_count s stripe past) then Refuses Second
    else Opens Rebuild
decision s WantsResync stripe i past =
    if not (is_listed stripe past) then Refuses Clean
    else if nat_le 1 (missing_count s stripe past) then Refuses Absent
    else Opens Resync

-- the event opens a command that is open after all these entries and conflicts with a task
abbrev pub opens_conflict : List Entry → Task → Event → Bool
opens_conflict whole task (Open command other) = is_open command whole && tasks_conflict task other
opens_conflict whole task _ = false

-- where a command of this task holds blocks: an update whose delta lies in a buffer at its target, a degraded read
-- that a target gathers at that one
abbrev pub holder_of : Setting → Kind → Task → Option ℕ
holder_of s Update task = if update_needs_room s.mode then Some task.target else None
holder_of s DegradedRead task = if target_gathers s.mode then Some (gatherer task) else None
holder_of s _ task = None

abbrev pub is_target_number : ℕ → Option ℕ → Bool
is_target_number i None = false
is_target_number i (Some j) = j == i

abbrev pub holds_at : Setting → ℕ → Task → Bool
holds_at s i task = is_target_number i (holder_of s task.kind task)

-- the blocks that an event's command holds at target i, where it is open after all these entries
abbrev pub count_of : Setting → List Entry → ℕ → Event → ℕ
count_of s whole i (Open command task) = if is_open command whole && holds_at s i task then task.count else 0
count_of s whole i _ = 0

-- the blocks that open commands hold at target i
abbrev pub held_count : Setting → List Entry → ℕ → List Entry → ℕ
held_count s whole i [] = 0
held_count s whole i (e ∷ past) = (if e.lock == 0 then count_of s whole i e.event else 0) + held_count s whole i past

-- the buffer has room for what a command of this task will hold, beside what open commands hold there
abbrev pub has_room_at : Setting → Task → List Entry → Option ℕ → Bool
has_room_at s task past None = true
has_room_at s task past (Some i) = nat_le (held_count s past i past + task.count) s.buffer

abbrev pub has_room : Setting → Task → List Entry → Bool
has_room s task past = has_room_at s task past (holder_of s task.kind task)
