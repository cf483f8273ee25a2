-- Whether an open update may end spoilt, as a test.
use Rattle.std.specs.Prelude.{◌==◌, ◌&&◌, ◌||◌, ◌+◌, ℕ, Bool, List}
use Rattle.array_journal.specs.declared.at.At.{At}
use Rattle.array_journal.specs.declared.entry.Entry.{Entry}
use Rattle.array_journal.specs.declared.task.Kind.TheVariants.{Update}
use Rattle.array_journal.specs.declared.task.Task.{Task}
use Rattle.array_journal.specs.declared.act.Act.TheVariants.{Diffs}
use Rattle.array_journal.specs.Acts.{is_act}
use Rattle.array_journal.specs.Entries.{same_at}
use Rattle.array_journal.specs.May.{shuts_idle, is_dropped_diff, discards}
use Rattle.run_check.specs.NameTests.{names}
use Rattle.run_check.specs.Plain.{same_kind}

-- what lost the delta of a diff: that its request was dropped, or an entry that discarded it
abbrev pub lost_delta : List Entry → ℕ → ℕ → At → At → Task → Bool
lost_delta past stamp c diff loss task =
    (same_at loss diff && names past stamp diff (is_dropped_diff c))
    || ((loss.lock == task.target + 1) && names past stamp loss (discards c))

abbrev pub may_spoil : List Entry → ℕ → ℕ → At → At → At → Task → Bool
may_spoil past stamp c diff loss shut task =
    same_kind task.kind Update && (diff.lock == task.target + 1) && names past stamp diff (is_act Diffs c)
    && lost_delta past stamp c diff loss task
    && (shut.lock == task.parity + 1) && names past stamp shut (shuts_idle c)
