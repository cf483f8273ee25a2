-- Whatever a target answers to an order, or to what another target answered, it has no entry more or one that may follow the
-- journal. The journal has the newest entry first.
use Rattle.std.specs.Prelude.{◌≡◌, ◌⊎◌, ◌++◌, ◌+◌, ℕ, Bool, false, List, [], Some, None, slice_get}
use Rattle.array_journal.specs.declared.act.Act.TheVariants.{Fetches}
use Rattle.array_journal.specs.declared.at.At.{At}
use Rattle.array_journal.specs.declared.entry.Entry.{Entry}
use Rattle.array_journal.specs.declared.setting.Setting.{Setting}
use Rattle.array_journal.specs.declared.task.Task.{Task}
use Rattle.array_journal.specs.May.{freshes_after}
use Rattle.xor_target.specs.declared.answer.Answer.{Answer}
use Rattle.xor_target.specs.declared.answer.PeerBack.{PeerBack}
use Rattle.xor_target.specs.declared.answer.PeerBack.TheVariants as back
use Rattle.xor_target.specs.declared.order.Order.{Order}
use Rattle.xor_target.specs.declared.waiting.Waiting.{Waiting}
use Rattle.xor_target.specs.Admission.{command_in}
use Rattle.xor_target.specs.Answers.{IsAnswered}
use Rattle.xor_target.specs.Gathers.{GatheringState, IsFirst, IsGatherer, done_order}
use Rattle.xor_target.specs.Resumes.{IsResumed}
use Rattle.xor_target.specs.State.{TargetState}
use Rattle.xor_target.specs.Waits.{waiting_of}
use Rattle.unit_plans.specs.Targets.{StandsIn, GrowsBy}
use Rattle.unit_plans.specs.Orders.{AskedOrder, AskedPutOrder, AskedDiffOrder, AskedTakeOrder, AskedFoldOrder, AskedHoldOrder}

-- the target has no entry more than before, or one that may follow the journal
abbrev pub StaysOrGrows : Setting → List Entry → TargetState → TargetState → Type 0
StaysOrGrows s journal t after = (after.past ≡ t.past) ⊎ GrowsBy s journal t after

-- what is asked of an order by the act that it is sent for
pub data AskedForAct (s : Setting) (past : List Entry) (i : ℕ) (order : Order) : Type 0 where
  Fetching : (task : Task) → AskedOrder s past i order 0 task Fetches → AskedForAct s past i order
  Putting : (task : Task) → AskedPutOrder s past i order task → AskedForAct s past i order
  Diffing : (task : Task) → AskedDiffOrder s past i order task → AskedForAct s past i order
  Taking : (task : Task) → AskedTakeOrder s past i order task → AskedForAct s past i order
  Folding : (task : Task) (name : At) → AskedFoldOrder s past i order task name → AskedForAct s past i order
  Holding : (task : Task) → AskedHoldOrder s past i order task → AskedForAct s past i order

-- No disk came to the target for a swap that isn't older than the opening that the order names, and this is asked of it.
pub record CanFollow (s : Setting) (t : TargetState) (order : Order) (journal : List Entry) : Type 0 where
  pub same_life : freshes_after t.number order.opened journal ≡ false
  pub asked : AskedForAct s journal t.number order

-- An order is sent: this is asked of one that brings its blocks, and of one that gathers and has no sources, as it is done.
-- A gathering with sources makes no entry yet.
pub record AskedRun (s : Setting) (t : TargetState) (order : Order) (journal : List Entry) : Type 0 where
  pub brings : (IsGatherer (command_in order.cdb) → ⊥) → CanFollow s t order journal
  pub alone : IsGatherer (command_in order.cdb) → (g : GatheringState) → IsFirst t.block order (command_in order.cdb) g → g.sources ≡ [] →
      CanFollow s t (done_order g [] [] order.stamp) journal

abbrev pub AnswersMayFollow : Type 0
AnswersMayFollow =
    (s : Setting) (never_fails : Bool) (t after : TargetState) (order : Order) (answer : Answer) (journal : List Entry) → StandsIn s t journal →
    AskedRun s t order journal → IsAnswered never_fails t order answer after → StaysOrGrows s journal t after

-- A gathering ends with the blocks of its last source: this is asked of its order with all that was gathered, whose command
-- is the one that its CDB gives.
pub record CanEnd (s : Setting) (t : TargetState) (g : GatheringState) (order : Order) (journal : List Entry) : Type 0 where
  pub commanded : g.admitted.command ≡ command_in order.cdb
  pub follows : CanFollow s t order journal

abbrev pub AskedBack : Setting → TargetState → ℕ → PeerBack → ℕ → List Entry → Type 0
AskedBack s t owner back.Failed seen journal = Unit {0}
AskedBack s t owner (back.Good bytes made) seen journal =
    (w : Waiting) (g : GatheringState) → waiting_of owner t.waiting ≡ Some w → w.gathering ≡ Some g → slice_get g.sources (g.answered + 1) ≡ None →
    CanEnd s t g (done_order g (w.made ++ made) bytes seen) journal

abbrev pub ResumesMayFollow : Type 0
ResumesMayFollow =
    (s : Setting) (never_fails : Bool) (t after : TargetState) (owner : ℕ) (peer : PeerBack) (seen : ℕ) (answer : Answer) (journal : List Entry) → StandsIn s t journal →
    AskedBack s t owner peer seen journal → IsResumed never_fails t owner peer seen answer after → StaysOrGrows s journal t after
