-- What a target answers has one entry at most, and this may follow the journal. `t` is the target before, `after` the target
-- afterwards; the journal has the newest entry first.
use Rattle.std.specs.Prelude.{◌≡◌, ◌≤◌, ℕ, Bool, List}
use Rattle.array_journal.specs.declared.act.Act.TheVariants.{Fetches}
use Rattle.array_journal.specs.declared.at.At.{At}
use Rattle.array_journal.specs.declared.entry.Entry.{Entry}
use Rattle.array_journal.specs.declared.setting.Setting.{Setting}
use Rattle.array_journal.specs.declared.task.Task.{Task}
use Rattle.array_journal.specs.Entries.{count_before}
use Rattle.array_journal.specs.Lives.{life_of, is_swap_of}
use Rattle.array_journal.specs.Parts.{AskedShut, AskedFresh}
use Rattle.xor_target.specs.declared.answer.GoneAt.{GoneAt}
use Rattle.xor_target.specs.declared.answer.ShutAnswer.{ShutAnswer}
use Rattle.xor_target.specs.declared.order.Order.{Order}
use Rattle.xor_target.specs.Admission.{command_in}
use Rattle.xor_target.specs.Answers.{IsDone, IsStruck}
use Rattle.xor_target.specs.Befalls.{IsShut, IsLost, IsReset, IsDropping, IsFresh}
use Rattle.xor_target.specs.State.{TargetState}
use Rattle.unit_plans.specs.Targets.{StandsIn, GrowsBy}
use Rattle.unit_plans.specs.Orders.{AskedOrder, AskedPutOrder, AskedDiffOrder, AskedTakeOrder, AskedFoldOrder, AskedHoldOrder, Serves}

-- the command of an order's CDB was done
abbrev pub IsOrderDone : TargetState → Order → TargetState → Type 0
IsOrderDone t order after = (bytes : List ℕ) × IsDone t order (command_in order.cdb) bytes after

-- a READ, which fetches
abbrev pub FetchMayFollow : Type 0
FetchMayFollow =
    (s : Setting) (t after : TargetState) (order : Order) (task : Task) (journal : List Entry) → Serves s t order journal →
    AskedOrder s journal t.number order 0 task Fetches → IsOrderDone t order after → GrowsBy s journal t after

-- A WRITE, or a REBUILD with what it has gathered, which puts.
abbrev pub PutMayFollow : Type 0
PutMayFollow =
    (s : Setting) (t after : TargetState) (order : Order) (task : Task) (journal : List Entry) → Serves s t order journal →
    AskedPutOrder s journal t.number order task → IsOrderDone t order after → GrowsBy s journal t after

-- an XDWRITE, XDWRITE EXTENDED or XDWRITEREAD, by the mode
abbrev pub DiffMayFollow : Type 0
DiffMayFollow =
    (s : Setting) (t after : TargetState) (order : Order) (task : Task) (journal : List Entry) → Serves s t order journal →
    AskedDiffOrder s journal t.number order task → IsOrderDone t order after → GrowsBy s journal t after

-- an XDREAD, which takes
abbrev pub TakeMayFollow : Type 0
TakeMayFollow =
    (s : Setting) (t after : TargetState) (order : Order) (task : Task) (journal : List Entry) → Serves s t order journal →
    AskedTakeOrder s journal t.number order task → IsOrderDone t order after → GrowsBy s journal t after

-- an XPWRITE, which folds
abbrev pub FoldMayFollow : Type 0
FoldMayFollow =
    (s : Setting) (t after : TargetState) (order : Order) (task : Task) (name : At) (journal : List Entry) → Serves s t order journal →
    AskedFoldOrder s journal t.number order task name → IsOrderDone t order after → GrowsBy s journal t after

-- a REGENERATE with what it has gathered, which holds
abbrev pub HoldMayFollow : Type 0
HoldMayFollow =
    (s : Setting) (t after : TargetState) (order : Order) (task : Task) (journal : List Entry) → Serves s t order journal →
    AskedHoldOrder s journal t.number order task → IsOrderDone t order after → GrowsBy s journal t after

-- a shut, by one who has seen the opening
abbrev pub ShutMayFollow : Type 0
ShutMayFollow =
    (s : Setting) (t after : TargetState) (owner : ℕ) (opened : At) (seen : ℕ) (answer : ShutAnswer) (task : Task) (journal : List Entry) → StandsIn s t journal →
    AskedShut s journal t.number owner opened task → opened.stamp ≤ seen → IsShut t owner opened seen answer after → GrowsBy s journal t after

-- a loss for a call, a reset, and a request to be dropped: nothing is asked of them
abbrev pub LossMayFollow : Type 0
LossMayFollow =
    (s : Setting) (t after : TargetState) (call seen : ℕ) (answer : GoneAt) (journal : List Entry) → StandsIn s t journal → IsLost t call seen answer after →
    GrowsBy s journal t after

abbrev pub ResetMayFollow : Type 0
ResetMayFollow =
    (s : Setting) (t after : TargetState) (call seen : ℕ) (at : At) (journal : List Entry) → StandsIn s t journal → IsReset t call seen at after → GrowsBy s journal t after

abbrev pub DropMayFollow : Type 0
DropMayFollow =
    (s : Setting) (t after : TargetState) (call seen : ℕ) (at : At) (journal : List Entry) → StandsIn s t journal → IsDropping t call seen at after →
    GrowsBy s journal t after

-- A fresh disk, by one who has seen its swap: this is the one that has as many swaps of the slot before it as fresh disks
-- came.
abbrev pub FreshMayFollow : Type 0
FreshMayFollow =
    (s : Setting) (t after : TargetState) (call : ℕ) (swap : At) (seen : ℕ) (journal : List Entry) → StandsIn s t journal →
    AskedFresh journal t.number call swap → count_before 0 (is_swap_of t.number) swap.stamp journal ≡ life_of t.number t.past → swap.stamp ≤ seen →
    IsFresh t call swap seen after → GrowsBy s journal t after

-- the loss of a disk whose medium failed
abbrev pub FailureMayFollow : Type 0
FailureMayFollow =
    (s : Setting) (never_fails : Bool) (t after : TargetState) (seen : ℕ) (journal : List Entry) → StandsIn s t journal → IsStruck never_fails t seen after →
    GrowsBy s journal t after
