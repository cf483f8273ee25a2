-- What stays as it is while a command is open: past is a run so far, with the newest entry first, and newer are
-- entries that came since.
use Rattle.std.specs.Prelude.{◌≡◌, ℕ, true, List, ◌++◌, Some}
use Rattle.array_journal.specs.declared.entry.Entry.{Entry}
use Rattle.array_journal.specs.declared.setting.Setting.{Setting}
use Rattle.array_journal.specs.declared.task.Task.{Task}
use Rattle.array_journal.specs.Commands.{is_open, task_of}
use Rattle.array_journal.specs.Acts.{is_target}
use Rattle.array_journal.specs.Lives.{swap_count, is_unfitted}
use Rattle.array_journal.specs.Run.{Grows}

-- a slot that is known to be without a disk is so still, and was swapped no further time
pub record StaysUnfitted (i : ℕ) (newer past : List Entry) : Type 0 where
  pub unfitted : is_unfitted i past ≡ true → is_unfitted i (newer ++ past) ≡ true
  pub swaps : swap_count i (newer ++ past) ≡ swap_count i past

-- While a command is open, none of its slots is swapped. So whoever closes it for a loss of one of them may look before
-- closing: what it saw holds still.
abbrev pub SlotsWaitLaw : Type 0
SlotsWaitLaw =
    (s : Setting) (i c : ℕ) (task : Task) (newer past : List Entry) → Grows s (newer ++ past) → is_open c (newer ++ past) ≡ true →
    task_of c past ≡ Some task → is_target s task i ≡ true → StaysUnfitted i newer past
