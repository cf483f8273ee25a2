-- The entries by which a controller serves a piece when nothing stands in the way and nothing fails: those of a
-- read, and those of a supervised update. Each list has the newest entry first. The stamp of an entry is its place
-- in the journal, from 1.
use Rattle.std.specs.Prelude.{ℕ, ◌+◌, true, false, List, [], ◌∷◌, length, None}
use Rattle.sbc_cdbs.specs.declared.descriptor.Cdb.{Cdb}
use Rattle.array_journal.specs.declared.at.At.{At}
use Rattle.array_journal.specs.declared.entry.Entry.{Entry}
use Rattle.array_journal.specs.declared.event.Event.{Event}
use Rattle.array_journal.specs.declared.event.Event.TheVariants.{Fetch, Diff, Take, Fold, Open, Close}
use Rattle.array_journal.specs.declared.setting.Setting.{Setting}
use Rattle.array_journal.specs.declared.task.Task.{Task}
use Rattle.array_journal.specs.Commands.{open_count}
use Rattle.array_journal.specs.Acts.{task_bytes}
use Rattle.array_journal.specs.Media.{rows_on}
use Rattle.array_journal.specs.Deltas.{delta_of}

-- the name of the entry that comes so many places after a journal, at a lock
abbrev pub next_name : List Entry → ℕ → ℕ → At
next_name past places lock = record { stamp = length past + places; lock = lock }

-- the entry so many places after a journal
abbrev pub next_entry : List Entry → ℕ → ℕ → Event → Entry
next_entry past places lock event = record { stamp = length past + places; lock = lock; event = event }

abbrev pub open_entry : List Entry → Task → Entry
open_entry past task = next_entry past 1 0 (Open (open_count past) task)

abbrev pub opened_name : List Entry → At
opened_name past = next_name past 1 0

-- a read fetches its rows from the medium
abbrev pub fetch_entry : Setting → List Entry → Task → Cdb → Entry
fetch_entry s past task cdb =
    next_entry past 2 (task.target + 1)
    (Fetch (open_count past) (opened_name past) cdb task.row (rows_on s task.target past task.row (task_bytes s task)))

abbrev pub close_read_entry : List Entry → Task → Entry
close_read_entry past task = next_entry past 3 0 (Close (open_count past) true (next_name past 2 (task.target + 1) ∷ []) None [])

-- the entries of a read, over the journal before it
abbrev pub read_entries : Setting → List Entry → Task → Cdb → List Entry
read_entries s past task cdb = close_read_entry past task ∷ fetch_entry s past task cdb ∷ open_entry past task ∷ past

-- an update writes its blocks over the old ones, and their exclusive-or is held
abbrev pub diff_entry : List Entry → Task → Cdb → Entry
diff_entry past task cdb =
    next_entry past 2 (task.target + 1) (Diff (open_count past) (opened_name past) cdb task.row task.bytes false false false)

-- the delta of an update, over the journal before it
abbrev pub update_delta : Setting → List Entry → Task → List ℕ
update_delta s past task = delta_of s task.target past task.row task.bytes

-- the held delta is taken
abbrev pub take_entry : Setting → List Entry → Task → Cdb → Entry
take_entry s past task cdb =
    next_entry past 3 (task.target + 1) (Take (open_count past) (opened_name past) cdb task.row (update_delta s past task))

-- and folded into parity
abbrev pub fold_entry : Setting → List Entry → Task → Cdb → Entry
fold_entry s past task cdb =
    next_entry past 4 (task.parity + 1)
    (Fold (open_count past) (opened_name past) cdb task.row (update_delta s past task) (next_name past 3 (task.target + 1) ∷ []))

abbrev pub close_update_entry : List Entry → Task → Entry
close_update_entry past task =
    next_entry past 5 0
    (Close (open_count past) true
    (next_name past 2 (task.target + 1) ∷ next_name past 3 (task.target + 1) ∷ next_name past 4 (task.parity + 1) ∷ []) None [])

-- the entries of an update, over the journal before it
abbrev pub update_entries : Setting → List Entry → Task → Cdb → Cdb → Cdb → List Entry
update_entries s past task diff take fold =
    close_update_entry past task ∷ fold_entry s past task fold ∷ take_entry s past task take ∷ diff_entry past task diff
    ∷ open_entry past task ∷ past
