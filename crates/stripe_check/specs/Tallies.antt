-- How many pieces of a call were closed as done, and how many were refused and left as they are. A list called past has
-- the newest entry first.
use Rattle.std.specs.Prelude.{ℕ, ◌+◌, ◌==◌, ◌&&◌, if◌then◌else◌, Bool, true, false, List, [], ◌∷◌, Option, Some, None}
use Rattle.array_journal.specs.declared.entry.Entry.{Entry}
use Rattle.array_journal.specs.declared.event.Event.{Event}
use Rattle.array_journal.specs.declared.event.Event.TheVariants.{Close, Refuse}
use Rattle.array_journal.specs.declared.event.Why.{Why}
use Rattle.array_journal.specs.declared.event.Why.TheVariants.{Illegal, Medium, NotReady, Unfitted, Present, Listed, Second, Clean, Absent, NotLost}
use Rattle.array_journal.specs.declared.task.Task.{Task}
use Rattle.array_journal.specs.Commands.{task_of}
use Rattle.stripe_check.specs.declared.command_summary.Tally.{Tally}

-- A piece that is refused for this reason is left as it is: it wanted a rebuild or a resync and couldn't have it. A unit
-- that is present and a stripe that is clean want none.
abbrev pub is_left : Why → Bool
is_left Unfitted = true
is_left Listed = true
is_left Second = true
is_left Absent = true
is_left (Illegal sense) = false
is_left Medium = false
is_left NotReady = false
is_left Present = false
is_left Clean = false
is_left NotLost = false

abbrev pub is_of_call : ℕ → Option Task → Bool
is_of_call n None = false
is_of_call n (Some task) = task.call == n

-- nothing yet
abbrev pub untold : Tally
untold = record { done = 0; left = 0 }

abbrev pub more_done : Tally → Tally
more_done t = record t { done = t.done + 1 }

abbrev pub more_left : Tally → Tally
more_left t = record t { left = t.left + 1 }

-- the tally of a call after an event: a close as done of one of its commands counts, and so does a refusal that leaves a
-- piece as it is
abbrev pub tally_after : ℕ → Event → List Entry → Tally → Tally
tally_after n (Close command true names cause bytes) past old = if is_of_call n (task_of command past) then more_done old else old
tally_after n (Refuse call piece why) past old = if is_left why && (call == n) then more_left old else old
tally_after n _ past old = old

-- the tally of the call of a number
abbrev pub tally_of : ℕ → List Entry → Tally
tally_of n [] = untold
tally_of n (e ∷ past) = tally_after n e.event past (tally_of n past)
