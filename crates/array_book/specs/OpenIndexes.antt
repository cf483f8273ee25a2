-- The indexes of open commands: those of each stripe, and those that hold blocks at each target, with the number of these
-- blocks. A list called past has the newest entry first.
use Rattle.std.specs.Prelude.{◌≡◌, ◌==◌, ◌&&◌, ◌||◌, ◌+◌, ◌-◌, ◌<◌, ◌≤◌, not, ℕ, Bool, false, List, Option, Some, None, if◌then◌else◌}
use Rattle.std.specs.BTreeMap.{get}
use Rattle.std.specs.BTreeSet.{BTreeSet, contains}
use Rattle.std.specs.Option.{unwrap_or}
use Rattle.std.specs.Ordering.{nat_cmp}
use Rattle.stripe_layout.specs.Layout.{stripes_of, first_row, unit_rows}
use Rattle.array_journal.specs.declared.entry.Entry.{Entry}
use Rattle.array_journal.specs.declared.setting.Setting.{Setting}
use Rattle.array_journal.specs.declared.task.Task.{Task}
use Rattle.array_journal.specs.Commands.{is_open, task_of, tasks_conflict}
use Rattle.array_journal.specs.Decision.{holder_of, is_target_number, holds_at, held_count}
use Rattle.array_book.specs.declared.groups.Groups.{Groups}
use Rattle.array_book.specs.declared.held_counts.HeldCounts.{HeldCounts}
use Rattle.array_book.specs.declared.holders.Holders.{Holders}
use Rattle.array_book.specs.declared.open_index.OpenIndex.{OpenIndex}
use Rattle.array_book.specs.OpenTasks.{passes_task, held_where}

-- ---- what is kept

abbrev pub has_member : Option (BTreeSet ℕ) → ℕ → Bool
has_member None c = false
has_member (Some group) c = contains nat_cmp group c

-- the command is in the group of a number
abbrev pub is_in : Groups → ℕ → ℕ → Bool
is_in g key c = has_member (get nat_cmp g.groups key) c

-- the blocks that are counted at target i
abbrev pub held_in : HeldCounts → ℕ → ℕ
held_in m i = unwrap_or (get nat_cmp m.counts i) 0

-- ---- what becomes of it

-- one more command holds so many blocks at a target, if at any
pub record AddsHolder (holder : Option ℕ) (command count : ℕ) (old new : Holders) : Type 0 where
  pub commands : (i c : ℕ) → is_in new.commands i c ≡ ((is_target_number i holder && (command == c)) || is_in old.commands i c)
  pub counts : (i : ℕ) → held_in new.counts i ≡ held_in old.counts i + (if is_target_number i holder then count else 0)

-- it does no more
pub record RemovesHolder (holder : Option ℕ) (command count : ℕ) (old new : Holders) : Type 0 where
  pub commands : (i c : ℕ) → is_in new.commands i c ≡ (is_in old.commands i c && not (is_target_number i holder && (command == c)))
  pub counts : (i : ℕ) → held_in new.counts i ≡ held_in old.counts i - (if is_target_number i holder then count else 0)

pub record AreSameHolders (old new : Holders) : Type 0 where
  pub commands : (i c : ℕ) → is_in new.commands i c ≡ is_in old.commands i c
  pub counts : (i : ℕ) → held_in new.counts i ≡ held_in old.counts i

-- a command with a task is put in
pub record AddsCommand (s : Setting) (command : ℕ) (task : Task) (old new : OpenIndex) : Type 0 where
  pub stripes : (q c : ℕ) → is_in new.on_stripes q c ≡ (((task.stripe == q) && (command == c)) || is_in old.on_stripes q c)
  pub holders : AddsHolder (holder_of s task.kind task) command task.count old.holders new.holders

-- a command with a task, if it has one, is taken out
pub record RemovesCommand (s : Setting) (command : ℕ) (task : Option Task) (old new : OpenIndex) : Type 0 where
  pub stripes : (q c : ℕ) → is_in new.on_stripes q c ≡ (is_in old.on_stripes q c && not (passes_task (λ t. t.stripe == q) task && (command == c)))
  pub commands : (i c : ℕ) → is_in new.holders.commands i c ≡ (is_in old.holders.commands i c && not (passes_task (holds_at s i) task && (command == c)))
  pub counts : (i : ℕ) → held_in new.holders.counts i ≡ held_in old.holders.counts i - held_where s i task

pub record IsSameIndex (old new : OpenIndex) : Type 0 where
  pub stripes : (q c : ℕ) → is_in new.on_stripes q c ≡ is_in old.on_stripes q c
  pub holders : AreSameHolders old.holders new.holders

-- ---- what it says

-- the task of a command, where it is open
abbrev pub open_task : ℕ → List Entry → Option Task
open_task c past = if is_open c past then task_of c past else None

-- what is kept is that of these entries
pub record KeepsIndex (s : Setting) (past : List Entry) (index : OpenIndex) : Type 0 where
  pub stripes : (q c : ℕ) → is_in index.on_stripes q c ≡ passes_task (λ task. task.stripe == q) (open_task c past)
  pub commands : (i c : ℕ) → is_in index.holders.commands i c ≡ passes_task (holds_at s i) (open_task c past)
  pub counts : (i : ℕ) → held_in index.holders.counts i ≡ held_count s past i past

-- a task keeps to the rows of its stripe
pub record IsInStripe (s : Setting) (task : Task) : Type 0 where
  pub in_array : task.stripe < stripes_of s.geometry
  pub from_stripe : first_row s.geometry task.stripe ≤ task.row
  pub to_stripe : task.row + task.count ≤ first_row s.geometry task.stripe + unit_rows s.geometry task.stripe

-- a task conflicts with that of a command
abbrev pub conflicts_with : List Entry → Task → ℕ → Bool
conflicts_with past task c = passes_task (tasks_conflict task) (task_of c past)
