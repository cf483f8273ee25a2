-- What is asked of an order by which a command acts at a target, over the journal, which has the newest entry first. It is
-- what the sender answers for: it doesn't know yet what the target reads or holds.
use Rattle.std.specs.Prelude.{◌≡◌, ◌≤◌, ◌+◌, ◌*◌, ℕ, true, false, List, [], ◌∷◌, length, map, Some}
use Rattle.blocks_core.specs.Xor.{xor, xor_all}
use Rattle.sbc_cdbs.specs.Cdbs.{SpellsCdb}
use Rattle.xor_buffers.specs.Held.{holder_of, rows_held}
use Rattle.array_journal.specs.declared.act.Act.{Act}
use Rattle.array_journal.specs.declared.act.Act.TheVariants.{Fetches, Puts, Diffs, Takes, Folds, Holds}
use Rattle.array_journal.specs.declared.at.At.{At}
use Rattle.array_journal.specs.declared.entry.Entry.{Entry}
use Rattle.array_journal.specs.declared.event.Event.TheVariants.{Open}
use Rattle.array_journal.specs.declared.setting.Setting.{Setting}
use Rattle.array_journal.specs.declared.task.Task.{Task}
use Rattle.array_journal.specs.Acts.{has_act, task_bytes, cdb_of, is_act, shuts_command}
use Rattle.array_journal.specs.Entries.{entry_at, some_at}
use Rattle.array_journal.specs.Lives.{is_gone}
use Rattle.array_journal.specs.May.{freshes_after, bytes_named, fetched_targets, IsFoldSource}
use Rattle.array_journal.specs.Media.{held}
use Rattle.array_journal.specs.Parts.{NamedAt}
use Rattle.array_journal.specs.Run.{Grows, IsSetting}
use Rattle.xor_target.specs.declared.order.Order.{Order}
use Rattle.xor_target.specs.State.{TargetState}
use Rattle.unit_plans.specs.Targets.{StandsIn, AreSeen}

-- Asked of each order at target i: the command was opened with this task, which has the act there; it isn't shut there and
-- didn't make this act yet; the CDB is that of the act, resting on so many fetches; and the sender has seen what it names.
pub record AskedOrder (s : Setting) (past : List Entry) (i : ℕ) (order : Order) (sources : ℕ) (task : Task) (act : Act) : Type 0 where
  pub opening : entry_at order.opened past ≡ Some (Open order.owner task)
  pub in_book : order.opened.lock ≡ 0
  pub of_task : has_act s act task i ≡ true
  pub not_shut : some_at (i + 1) (shuts_command order.owner) past ≡ false
  pub once : some_at (i + 1) (is_act act order.owner) past ≡ false
  pub spelt : SpellsCdb order.cdb (cdb_of s task sources act)
  pub seen : AreSeen order.stamp (order.opened ∷ order.names)

-- asked of a put: it names the command's fetches, and its bytes are made of what they read and of the task's bytes
pub record AskedPutOrder (s : Setting) (past : List Entry) (i : ℕ) (order : Order) (task : Task) : Type 0 where
  pub act : AskedOrder s past i order (length order.names) task Puts
  pub whole : length order.bytes ≡ task_bytes s task
  pub fetched : NamedAt past (fetched_targets s task) (is_act Fetches order.owner) order.names
  pub made : order.bytes ≡ xor task.bytes (xor_all (length order.bytes) (map (bytes_named past) order.names))

-- asked of a diff: its bytes are the task's
pub record AskedDiffOrder (s : Setting) (past : List Entry) (i : ℕ) (order : Order) (task : Task) : Type 0 where
  pub act : AskedOrder s past i order 0 task Diffs
  pub whole : length order.bytes ≡ task_bytes s task
  pub written : order.bytes ≡ task.bytes

-- asked of a take: the first held blocks that contain its rows are the command's
pub record AskedTakeOrder (s : Setting) (past : List Entry) (i : ℕ) (order : Order) (task : Task) : Type 0 where
  pub act : AskedOrder s past i order 0 task Takes
  pub own : holder_of s.geometry.block task.row (task_bytes s task) (held s i past) ≡ Some order.owner

-- asked of a fold: it names the one entry at the task's target that its delta comes from
pub record AskedFoldOrder (s : Setting) (past : List Entry) (i : ℕ) (order : Order) (task : Task) (name : At) : Type 0 where
  pub act : AskedOrder s past i order 0 task Folds
  pub whole : length order.bytes ≡ task_bytes s task
  pub one : order.names ≡ name ∷ []
  pub at_source : name.lock ≡ task.target + 1
  pub source : IsFoldSource s past order.owner task name order.bytes (entry_at name past)

-- asked of a hold, with what was gathered for it: it names the command's fetches, and its bytes are what they read
pub record AskedHoldOrder (s : Setting) (past : List Entry) (i : ℕ) (order : Order) (task : Task) : Type 0 where
  pub act : AskedOrder s past i order (length order.names) task Holds
  pub whole : length order.bytes ≡ task_bytes s task
  pub fetched : NamedAt past (fetched_targets s task) (is_act Fetches order.owner) order.names
  pub made : order.bytes ≡ xor_all (task_bytes s task) (map (bytes_named past) order.names)

-- A target serves an order over the journal: it stands in it, its disk works, and no disk came there for a swap that isn't
-- older than the command's opening.
pub record Serves (s : Setting) (t : TargetState) (order : Order) (journal : List Entry) : Type 0 where
  pub stands : StandsIn s t journal
  pub works : is_gone t.number t.past ≡ false
  pub same_life : freshes_after t.number order.opened journal ≡ false

-- What meets that: in a run, where a command holds rows in one piece, the first held blocks that contain them are the
-- command's, as no two held blocks share a row.
abbrev pub OwnRowsComeFirst : Type 0
OwnRowsComeFirst =
    (s : Setting) (i c row count : ℕ) (bytes : List ℕ) (past : List Entry) → IsSetting s → 1 ≤ count → Grows s past →
    rows_held s.geometry.block c row (count * s.geometry.block) (held s i past) ≡ Some bytes →
    holder_of s.geometry.block row (count * s.geometry.block) (held s i past) ≡ Some c
