-- Whether an open command may close, as a test.
use Rattle.std.specs.Prelude.{◌&&◌, not, ℕ, Bool, true, false, List, Option, Some, None}
use Rattle.std.specs.Str.{bytes_eq}
use Rattle.array_journal.specs.declared.at.At.{At}
use Rattle.array_journal.specs.declared.entry.Entry.{Entry}
use Rattle.array_journal.specs.declared.setting.Setting.{Setting}
use Rattle.array_journal.specs.declared.task.Kind.TheVariants.{Update}
use Rattle.array_journal.specs.declared.task.Task.{Task}
use Rattle.array_journal.specs.declared.act.Act.TheVariants.{Fetches, Puts, Diffs, Takes, Folds, Holds}
use Rattle.array_journal.specs.Acts.{is_target, targets_that}
use Rattle.array_journal.specs.May.{closed_bytes, shuts_idle}
use Rattle.array_book.specs.OpenTasks.{passes_task}
use Rattle.run_check.specs.NameTests.{names_at, open_task, rise_after}
use Rattle.run_check.specs.ActNameTests.{each_own, all_named, fold_named}
use Rattle.run_check.specs.Plain.{is_empty, same_kind}
use Rattle.run_check.specs.CauseTest.{cause_of_loss, is_cause}

-- the names are acts of the command, each once, in the order of the journal, and each of its acts of five kinds
abbrev pub names_acts : Setting → List Entry → ℕ → ℕ → Task → List At → Bool
names_acts s past stamp c task list =
    rise_after None list && each_own s past stamp c task list
    && all_named s past c task Fetches list && all_named s past c task Puts list && all_named s past c task Diffs list
    && all_named s past c task Takes list && all_named s past c task Holds list

abbrev pub may_close_whole : Setting → List Entry → ℕ → ℕ → Task → List At → List ℕ → Bool
may_close_whole s past stamp c task list bytes =
    names_acts s past stamp c task list && all_named s past c task Folds list
    && bytes_eq bytes (closed_bytes s past task list task.kind)

abbrev pub may_close_unfolded : Setting → List Entry → ℕ → ℕ → Task → List At → At → List ℕ → Bool
may_close_unfolded s past stamp c task list cause bytes =
    same_kind task.kind Update && names_acts s past stamp c task list && not (fold_named past c list)
    && cause_of_loss past stamp task.parity cause && is_empty bytes

abbrev pub may_give_up : Setting → List Entry → ℕ → ℕ → Task → List At → At → List ℕ → Bool
may_give_up s past stamp c task list cause bytes =
    names_at past stamp (targets_that s (is_target s task)) (shuts_idle c) list
    && is_cause s past stamp c task cause && is_empty bytes

abbrev pub may_close : Setting → List Entry → ℕ → ℕ → Bool → List At → Option At → List ℕ → Task → Bool
may_close s past stamp c true list None bytes task = may_close_whole s past stamp c task list bytes
may_close s past stamp c true list (Some cause) bytes task = may_close_unfolded s past stamp c task list cause bytes
may_close s past stamp c false list None bytes task = false
may_close s past stamp c false list (Some cause) bytes task = may_give_up s past stamp c task list cause bytes

-- a command is open, and its task passes
abbrev pub of_open : List Entry → ℕ → (Task → Bool) → Bool
of_open past c test = passes_task test (open_task past c)
