-- Which open command another has to wait for. A list called past has the newest entry first.
use Rattle.std.specs.Prelude.{◌≡◌, ◌≤◌, ◌⊎◌, ℕ, Bool, true, false, List, Option, Some, None}
use Rattle.array_journal.specs.declared.entry.Entry.{Entry}
use Rattle.array_journal.specs.declared.setting.Setting.{Setting}
use Rattle.array_journal.specs.declared.task.Task.{Task}
use Rattle.array_journal.specs.Acts.{is_target}
use Rattle.array_journal.specs.Commands.{is_open, task_of, tasks_conflict}
use Rattle.array_journal.specs.Decision.{holder_of, holds_at, opens_conflict, has_room}
use Rattle.array_journal.specs.Entries.{some_at}
use Rattle.array_book.specs.OpenTasks.{passes_task}

-- the command is open, and its task passes
pub record IsOpenSo (past : List Entry) (test : Task → Bool) (c : ℕ) : Type 0 where
  pub open_still : is_open c past ≡ true
  pub passes : passes_task test (task_of c past) ≡ true

-- of the open commands whose task passes, this is the least
pub record IsLeastOpen (past : List Entry) (test : Task → Bool) (by : ℕ) : Type 0 where
  pub one : IsOpenSo past test by
  pub least : (c : ℕ) → IsOpenSo past test c → by ≤ c

-- a command of a task holds blocks in the buffer of this target, if there is one
abbrev pub fills : Setting → Option ℕ → Task → Bool
fills s None task = false
fills s (Some i) task = holds_at s i task

-- nothing that is open stands in the way of a task but the blocks that others hold where it will hold its own
pub record WaitsForRoom (s : Setting) (past : List Entry) (task : Task) (by : ℕ) : Type 0 where
  pub alone : some_at 0 (opens_conflict past task) past ≡ false
  pub full : has_room s task past ≡ false
  pub least : IsLeastOpen past (fills s (holder_of s task.kind task)) by

-- a command of a task has to wait for this one, the least that it conflicts with, or the least that holds blocks where it
-- lacks room
abbrev pub WaitsFor : Setting → List Entry → Task → ℕ → Type 0
WaitsFor s past task by = IsLeastOpen past (tasks_conflict task) by ⊎ WaitsForRoom s past task by

-- it has to wait for none
pub record IsFree (s : Setting) (past : List Entry) (task : Task) : Type 0 where
  pub alone : some_at 0 (opens_conflict past task) past ≡ false
  pub room : has_room s task past ≡ true

-- a slot's new disk waits for this command, the least that acts there
abbrev pub SwapWaitsFor : Setting → List Entry → ℕ → ℕ → Type 0
SwapWaitsFor s past slot by = IsLeastOpen past (λ task. is_target s task slot) by
