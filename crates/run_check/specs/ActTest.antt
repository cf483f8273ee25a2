-- What each act asks, whatever it does, as a test.
use Rattle.array_book.specs.OpenTasks.{passes_task}
use Rattle.std.specs.Prelude.{◌==◌, ◌&&◌, ◌+◌, not, ℕ, Bool, List}
use Rattle.sbc_cdbs.specs.declared.descriptor.Cdb.{Cdb}
use Rattle.array_journal.specs.declared.at.At.{At}
use Rattle.array_journal.specs.declared.entry.Entry.{Entry}
use Rattle.array_journal.specs.declared.setting.Setting.{Setting}
use Rattle.array_journal.specs.declared.task.Task.{Task}
use Rattle.array_journal.specs.declared.act.Act.{Act}
use Rattle.array_journal.specs.Acts.{has_act, is_act, shuts_command, task_bytes, cdb_of}
use Rattle.array_journal.specs.Entries.{some_at}
use Rattle.array_journal.specs.Lives.{is_gone}
use Rattle.array_journal.specs.May.{freshes_after}
use Rattle.run_check.specs.NameTests.{opened_task}
use Rattle.run_check.specs.Spelt.{is_spelt}

-- what of an act of a command at target i doesn't hang on its row, length and CDB
abbrev pub may_act_here : Setting → List Entry → ℕ → ℕ → At → Task → Act → Bool
may_act_here s past i c opened task act =
    has_act s act task i && not (is_gone i past)
    && not (some_at (i + 1) (shuts_command c) past) && not (some_at (i + 1) (is_act act c) past)
    && not (freshes_after i opened past)

-- row and length are the task's
abbrev pub has_rows : Setting → ℕ → ℕ → Task → Bool
has_rows s row len task = (row == task.row) && (len == task_bytes s task)

-- what each act asks, whatever it does
abbrev pub may_act : Setting → List Entry → ℕ → ℕ → At → Cdb → ℕ → ℕ → ℕ → Task → Act → Bool
may_act s past i c opened cdb row len sources task act =
    may_act_here s past i c opened task act && has_rows s row len task && is_spelt cdb (cdb_of s task sources act)

-- a test of the task of the command that a named entry opens
abbrev pub of_opened : List Entry → ℕ → ℕ → At → (Task → Bool) → Bool
of_opened past stamp c opened test = passes_task test (opened_task past stamp c opened)
