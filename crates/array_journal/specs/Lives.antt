-- Disks that are lost and replaced. A disk lives from one fresh entry of its slot to the loss after it.
use Rattle.std.specs.Prelude.{◌==◌, ◌&&◌, ℕ, suc, ◌+◌, Bool, true, false, List, [], ◌∷◌, Option, Some, None, is_some, if◌then◌else◌}
use Rattle.array_journal.specs.declared.at.At.{At}
use Rattle.array_journal.specs.declared.entry.Entry.{Entry}
use Rattle.array_journal.specs.declared.event.Event.{Event}
use Rattle.array_journal.specs.declared.event.Event.TheVariants.{Put, Gone, Fresh, Open, Close, Note, Swap}
use Rattle.array_journal.specs.declared.task.Kind.{Kind}
use Rattle.array_journal.specs.declared.task.Kind.TheVariants.{Rebuild}
use Rattle.array_journal.specs.declared.task.Task.{Task}
use Rattle.array_journal.specs.Entries.{name_of, some_at, count_at}
use Rattle.array_journal.specs.Commands.{task_of}

abbrev pub is_fresh : Event → Bool
is_fresh (Fresh call swap) = true
is_fresh _ = false

abbrev pub is_note_of : ℕ → Event → Bool
is_note_of i (Note slot lost) = slot == i
is_note_of i _ = false

abbrev pub is_swap_of : ℕ → Event → Bool
is_swap_of i (Swap slot call) = slot == i
is_swap_of i _ = false

-- the newest loss after an event at a target, where its disk is gone
abbrev pub loss_after : At → Event → Option At → Option At
loss_after at (Gone life call commands) old = Some at
loss_after at (Fresh call swap) old = None
loss_after at _ old = old

-- the newest loss of target i, where no fresh disk came after it
abbrev pub loss_of : ℕ → List Entry → Option At
loss_of i [] = None
loss_of i (e ∷ past) = if e.lock == i + 1 then loss_after (name_of e) e.event (loss_of i past) else loss_of i past

-- target i has no disk that works
abbrev pub is_gone : ℕ → List Entry → Bool
is_gone i past = is_some (loss_of i past)

-- the life of target i's disk, from 0: how many fresh disks came
abbrev pub life_of : ℕ → List Entry → ℕ
life_of i past = count_at (i + 1) is_fresh past

-- the life of a disk after an event at its target
abbrev pub life_after : Event → ℕ → ℕ
life_after event life = if is_fresh event then suc life else life

-- how many times the book swapped the disk of slot i
abbrev pub swap_count : ℕ → List Entry → ℕ
swap_count i past = count_at 0 (is_swap_of i) past

-- the loss of slot i was noted once
abbrev pub is_noted : ℕ → List Entry → Bool
is_noted i past = some_at 0 (is_note_of i) past

-- the newest of the notes and swaps of slot i is a note: its loss is known, and it has no new disk yet
abbrev pub is_unfitted : ℕ → List Entry → Bool
is_unfitted i [] = false
is_unfitted i (e ∷ past) =
    if (e.lock == 0) && is_note_of i e.event then true
    else if (e.lock == 0) && is_swap_of i e.event then false
    else is_unfitted i past

abbrev pub is_rebuild : Kind → Bool
is_rebuild Rebuild = true
is_rebuild _ = false

-- the task is to rebuild the unit of target i in a stripe
abbrev pub rebuilds : ℕ → ℕ → Option Task → Bool
rebuilds i stripe None = false
rebuilds i stripe (Some task) = is_rebuild task.kind && (task.target == i) && (task.stripe == stripe)

abbrev pub closes_done : ℕ → Event → Bool
closes_done c (Close command true names cause bytes) = command == c
closes_done c _ = false

-- in all these entries, command c rebuilt that unit and is closed as done
abbrev pub has_rebuilt : List Entry → ℕ → ℕ → ℕ → Bool
has_rebuilt whole i stripe c = rebuilds i stripe (task_of c whole) && some_at 0 (closes_done c) whole

-- the event writes the unit of target i anew, by a rebuild that is closed as done in all these entries
abbrev pub puts_rebuilt : List Entry → ℕ → ℕ → Event → Bool
puts_rebuilt whole i stripe (Put command opened cdb row bytes names) = has_rebuilt whole i stripe command
puts_rebuilt whole i stripe _ = false

-- the event opens a rebuild of that unit which is closed as done in all these entries
abbrev pub opens_rebuilt : List Entry → ℕ → ℕ → Event → Bool
opens_rebuilt whole i stripe (Open command task) = has_rebuilt whole i stripe command
opens_rebuilt whole i stripe _ = false

abbrev pub is_loss : Event → Bool
is_loss (Gone life call commands) = true
is_loss _ = false

-- some loss of target i has no later put by such a rebuild: from the newest entry back, a loss is met before
-- such a put
abbrev pub absent_in : List Entry → ℕ → ℕ → List Entry → Bool
absent_in whole i stripe [] = false
absent_in whole i stripe (e ∷ past) =
    if (e.lock == i + 1) && is_loss e.event then true
    else if (e.lock == i + 1) && puts_rebuilt whole i stripe e.event then false
    else absent_in whole i stripe past

-- the unit of target i in a stripe is absent: its disk was lost, and it wasn't rebuilt since
abbrev pub is_absent : ℕ → ℕ → List Entry → Bool
is_absent i stripe past = absent_in past i stripe past

-- some note of slot i has no rebuild of that unit that was opened later and is closed as done
abbrev pub missing_in : List Entry → ℕ → ℕ → List Entry → Bool
missing_in whole i stripe [] = false
missing_in whole i stripe (e ∷ past) =
    if (e.lock == 0) && is_note_of i e.event then true
    else if (e.lock == 0) && opens_rebuilt whole i stripe e.event then false
    else missing_in whole i stripe past

-- the unit of target i in a stripe is missing: the book knows that its disk was lost, and of no rebuild since
abbrev pub is_missing : ℕ → ℕ → List Entry → Bool
is_missing i stripe past = missing_in past i stripe past
