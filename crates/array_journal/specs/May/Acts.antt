-- Which act of a command may follow a journal: fetch, put, diff, take, fold and hold.
use Rattle.std.specs.Prelude.{◌≡◌, ◌&&◌, ◌||◌, ◌<◌, nat_lt, nat_le, not, ℕ, ◌+◌, Bool, true, false, List, [], ◌∷◌, length, map, Option, Some}
use Rattle.blocks_core.specs.Xor.{xor, xor_all}
use Rattle.stripe_layout.specs.declared.mode.Mode.{Mode}
use Rattle.stripe_layout.specs.Modes.{sends_delta, hands_delta_back}
use Rattle.sbc_cdbs.specs.declared.descriptor.Cdb.{Cdb}
use Rattle.sbc_cdbs.specs.Cdbs.{SpellsCdb, cdb_bytes}
use Rattle.array_journal.specs.declared.at.At.{At}
use Rattle.array_journal.specs.declared.entry.Entry.{Entry}
use Rattle.array_journal.specs.declared.event.Event.{Event}
use Rattle.array_journal.specs.declared.event.Event.TheVariants.{Diff, Take, Fresh, Open}
use Rattle.array_journal.specs.declared.setting.Setting.{Setting}
use Rattle.array_journal.specs.declared.task.Task.{Task}
use Rattle.array_journal.specs.Entries.{entry_at, some_at}
use Rattle.array_journal.specs.declared.act.Act.{Act}
use Rattle.array_journal.specs.declared.act.Act.TheVariants.{Fetches, Puts, Diffs, Takes, Folds, Holds}
use Rattle.array_journal.specs.Acts.{has_act, task_bytes, cdb_of, is_act, shuts_command}
use Rattle.xor_buffers.specs.Held.{rows_held}
use Rattle.array_journal.specs.Media.{rows_on, held, drops}
use Rattle.array_journal.specs.Lives.{is_gone}
use Rattle.array_journal.specs.Deltas.{delta_at}
use Rattle.array_journal.specs.May.NamedEntries.{StandsBefore, bytes_named, NamesFetches}

-- the event puts in a disk for a swap that isn't older than an opening
abbrev pub swapped_since : At → Event → Bool
swapped_since opened (Fresh call swap) = nat_le opened.stamp swap.stamp
swapped_since opened _ = false

-- some fresh disk of target i is there for a swap that isn't older than an opening
abbrev pub freshes_after : ℕ → At → List Entry → Bool
freshes_after i opened past = some_at (i + 1) (swapped_since opened) past

-- What each act of a command at target i asks, whatever it does: that its command was opened, with a task that
-- has this act here, before each new disk of this target was put in; that it comes once, and before the command
-- is shut here; that the disk works; and that row, length and CDB are the task's.
pub record MayAct (s : Setting) (past : List Entry) (stamp i c : ℕ) (opened : At) (cdb : Cdb) (row len sources : ℕ) (task : Task) (act : Act) : Type 0 where
  pub opening : StandsBefore past stamp opened (Open c task)
  pub in_book : opened.lock ≡ 0
  pub of_task : has_act s act task i ≡ true
  pub not_gone : is_gone i past ≡ false
  pub not_shut : some_at (i + 1) (shuts_command c) past ≡ false
  pub once : some_at (i + 1) (is_act act c) past ≡ false
  pub same_life : freshes_after i opened past ≡ false
  pub at_row : row ≡ task.row
  pub whole : len ≡ task_bytes s task
  pub spelt : SpellsCdb (cdb_bytes cdb) (cdb_of s task sources act)

-- some task is that of the command, and it may act so
abbrev pub SomeTask : (Task → Type 0) → Type 0
SomeTask P = (task : Task) × P task

-- Fetch: the bytes are the medium's rows.
pub record MayFetch (s : Setting) (past : List Entry) (stamp i c : ℕ) (opened : At) (cdb : Cdb) (row : ℕ) (bytes : List ℕ) (task : Task) : Type 0 where
  pub act : MayAct s past stamp i c opened cdb row (length bytes) 0 task Fetches
  pub read : bytes ≡ rows_on s i past row (length bytes)

-- Put: the bytes are the exclusive-or of what the named fetches read and of the task's bytes, where it has any.
pub record MayPut (s : Setting) (past : List Entry) (stamp i c : ℕ) (opened : At) (cdb : Cdb) (row : ℕ) (bytes : List ℕ) (names : List At) (task : Task) : Type 0 where
  pub act : MayAct s past stamp i c opened cdb row (length bytes) (length names) task Puts
  pub fetched : NamesFetches s past stamp c task names
  pub made : bytes ≡ xor task.bytes (xor_all (length bytes) (map (bytes_named past) names))

-- Diff: the bytes are the task's; the mode says whether the delta is sent, and whether it is handed back; what is sent
-- is dropped where a request is to be dropped here.
pub record MayDiff (s : Setting) (past : List Entry) (stamp i c : ℕ) (opened : At) (cdb : Cdb) (row : ℕ) (bytes : List ℕ) (sent dropped back : Bool) (task : Task) : Type 0 where
  pub act : MayAct s past stamp i c opened cdb row (length bytes) 0 task Diffs
  pub written : bytes ≡ task.bytes
  pub sent_by_mode : sent ≡ sends_delta s.mode
  pub back_by_mode : back ≡ hands_delta_back s.mode
  pub dropped_when_due : dropped ≡ (sent && nat_lt 0 (drops i past))

-- Take: the bytes are the rows as this command holds them here.
pub record MayTake (s : Setting) (past : List Entry) (stamp i c : ℕ) (opened : At) (cdb : Cdb) (row : ℕ) (bytes : List ℕ) (task : Task) : Type 0 where
  pub act : MayAct s past stamp i c opened cdb row (length bytes) 0 task Takes
  pub taken : rows_held s.geometry.block c row (length bytes) (held s i past) ≡ Some bytes

-- the delta of a diff is on its way to parity: the target sent it and no request was dropped, or the controller has
-- it back
abbrev pub is_under_way : Mode → Bool → Bool → Bool → Bool
is_under_way mode sent dropped back = (sends_delta mode && sent && not dropped) || (hands_delta_back mode && back)

-- what a fold may rest on: a take of the command with these bytes, or a diff of it whose delta they are and is on its
-- way
abbrev pub IsFoldSource : Setting → List Entry → ℕ → Task → At → List ℕ → Option Event → Type 0
IsFoldSource s past c task name bytes (Some (Take command opened cdb row taken)) = (command ≡ c) × (taken ≡ bytes)
IsFoldSource s past c task name bytes (Some (Diff command opened cdb row written sent dropped back)) =
    (is_under_way s.mode sent dropped back ≡ true) × (command ≡ c) × (delta_at s task.target name past ≡ Some bytes)
IsFoldSource s past c task name bytes _ = ⊥

-- Fold: it names the one entry at the task's target that its delta comes from.
pub record MayFold (s : Setting) (past : List Entry) (stamp i c : ℕ) (opened : At) (cdb : Cdb) (row : ℕ) (bytes : List ℕ) (names : List At) (task : Task) (name : At) : Type 0 where
  pub act : MayAct s past stamp i c opened cdb row (length bytes) 0 task Folds
  pub one : names ≡ name ∷ []
  pub at_source : name.lock ≡ task.target + 1
  pub earlier : name.stamp < stamp
  pub source : IsFoldSource s past c task name bytes (entry_at name past)

-- Hold: it is kept and not handed back, and is the exclusive-or of what the named fetches read and of the medium's rows.
pub record MayHold (s : Setting) (past : List Entry) (stamp i c : ℕ) (opened : At) (cdb : Cdb) (row : ℕ) (bytes : List ℕ) (kept : Bool) (names : List At) (back : Bool) (task : Task) : Type 0 where
  pub act : MayAct s past stamp i c opened cdb row (length bytes) (length names) task Holds
  pub kept_here : kept ≡ true
  pub not_handed : back ≡ false
  pub fetched : NamesFetches s past stamp c task names
  pub made : bytes ≡ xor (rows_on s i past row (length bytes)) (xor_all (length bytes) (map (bytes_named past) names))
