-- Whether a shut may follow, as a test.
use Rattle.std.specs.Prelude.{◌&&◌, ◌+◌, not, ℕ, Bool, List, Option}
use Rattle.array_journal.specs.declared.at.At.{At}
use Rattle.array_journal.specs.declared.entry.Entry.{Entry}
use Rattle.array_journal.specs.declared.setting.Setting.{Setting}
use Rattle.array_journal.specs.declared.task.Task.{Task}
use Rattle.array_journal.specs.declared.act.Act.TheVariants.{Fetches}
use Rattle.array_journal.specs.Acts.{is_act, is_target, shuts_command, changes_medium}
use Rattle.array_journal.specs.Entries.{some_at}
use Rattle.array_journal.specs.Lives.{loss_of}
use Rattle.array_journal.specs.May.{is_read_task}
use Rattle.run_check.specs.Plain.{same_bool, same_place}

abbrev pub may_shut : Setting → List Entry → ℕ → ℕ → Bool → Option At → Task → Bool
may_shut s past i c acted lost task =
    is_target s task i && not (some_at (i + 1) (shuts_command c) past)
    && not (is_read_task task.kind && some_at (i + 1) (is_act Fetches c) past)
    && same_bool acted (some_at (i + 1) (changes_medium c) past) && same_place lost (loss_of i past)
