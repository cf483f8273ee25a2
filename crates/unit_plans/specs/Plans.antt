-- What a plan is, and what it asks for next.
use Rattle.std.specs.Prelude.{◌≡◌, ◌++◌, ℕ, Bool, true, false, List, [], Option, Some, None}
use Rattle.stripe_layout.specs.declared.geometry.Geometry.{Geometry}
use Rattle.stripe_layout.specs.declared.mode.Mode.{Mode}
use Rattle.stripe_layout.specs.Layout.{IsArray}
use Rattle.stripe_layout.specs.Modes.{takes_delta, sends_delta}
use Rattle.sbc_cdbs.specs.Cdbs.{spelling}
use Rattle.array_journal.specs.declared.act.Act.{Act as Kind}
use Rattle.array_journal.specs.declared.act.Act.TheVariants.{Fetches, Puts, Diffs, Takes, Folds, Holds}
use Rattle.array_journal.specs.declared.at.At.{At}
use Rattle.array_journal.specs.declared.setting.Setting.{Setting}
use Rattle.array_journal.specs.declared.task.Kind.{Kind as TaskKind}
use Rattle.array_journal.specs.declared.task.Kind.TheVariants.{Read, Update}
use Rattle.array_journal.specs.declared.task.Task.{Task}
use Rattle.array_journal.specs.Acts.{cdb_of}
use Rattle.array_journal.specs.May.{IsTask}
use Rattle.xor_target.specs.declared.answer.Answer.TheVariants.{Good}
use Rattle.xor_target.specs.declared.order.Order.{Order}
use Rattle.unit_plans.specs.declared.acts.Act.TheVariants.{Run}
use Rattle.unit_plans.specs.declared.acts.Acted.TheVariants as acted
use Rattle.unit_plans.specs.declared.acts.BookAct.TheVariants.{Close}
use Rattle.unit_plans.specs.declared.acts.BookActed.TheVariants.{Closed}
use Rattle.unit_plans.specs.declared.doings.Do.{Do}
use Rattle.unit_plans.specs.declared.doings.Do.TheVariants as dos
use Rattle.unit_plans.specs.declared.doings.Reply.TheVariants as replies
use Rattle.unit_plans.specs.declared.doings.Said.{Said}
use Rattle.unit_plans.specs.declared.doings.Said.TheVariants as said
use Rattle.unit_plans.specs.declared.steps.Step.{Step}
use Rattle.unit_plans.specs.declared.steps.Step.TheVariants.{Begun, Acting, Closing, Over}
use Rattle.unit_plans.specs.Steps.{first_act, target_of}

-- A plan: the array, its command, the entry that opened it and the task; the entries that its acts have made, the oldest first;
-- the bytes that it will reply; and how far it has come.
pub record PlanState : Type 0 where
  pub geometry : Geometry
  pub mode : Mode
  pub task : Task
  pub command : ℕ
  pub opened : At
  pub names : List At
  pub bytes : List ℕ
  pub step : Step

-- the array as a setting; no act hangs on what buffers hold
abbrev pub setting_of : PlanState → Setting
setting_of p = record { geometry = p.geometry; buffer = 0; mode = p.mode }

-- The kinds of command that there are plans for: reads, and updates whose delta the controller carries.
abbrev pub IsPlanned : Mode → TaskKind → Type 0
IsPlanned mode Read = Unit {0}
IsPlanned mode Update = sends_delta mode ≡ false
IsPlanned mode _ = ⊥

-- a plan's array is in its ranges, and its task is sound and of a kind that is planned
pub record IsPlan (p : PlanState) : Type 0 where
  pub array : IsArray p.geometry
  pub sound : IsTask (setting_of p) p.task
  pub planned : IsPlanned p.mode p.task.kind

-- a plan before it asks for anything
abbrev pub begun : Geometry → Mode → Task → ℕ → At → PlanState
begun geometry mode task command opened = record {
  geometry = geometry;
  mode = mode;
  task = task;
  command = command;
  opened = opened;
  names = [];
  bytes = [];
  step = Begun;
}

-- the order by which a plan's command makes an act, which names these entries and has these bytes
abbrev pub plan_order : PlanState → Kind → List At → List ℕ → Order
plan_order p act names bytes = record {
  owner = p.command;
  opened = p.opened;
  names = names;
  stamp = p.opened.stamp;
  cdb = spelling (cdb_of (setting_of p) p.task 0 act);
  bytes = bytes;
}

-- a plan asks for an act
pub record Asks (p : PlanState) (act : Kind) (names : List At) (bytes : List ℕ) (next : Do) (new : PlanState) : Type 0 where
  pub says : next ≡ dos.Target (target_of p.task act) (Run (plan_order p act names bytes))
  pub goes_on : new ≡ record p { step = Acting act }

-- it asks to close its command as done, by all that its acts have made
pub record Closes (p : PlanState) (next : Do) (new : PlanState) : Type 0 where
  pub says : next ≡ dos.Book (Close p.command (record { done = true; names = p.names; cause = None; bytes = [] }))
  pub goes_on : new ≡ record p { step = Closing }

-- it replies
pub record Replies (p : PlanState) (next : Do) (new : PlanState) : Type 0 where
  pub says : next ≡ dos.Reply (replies.Good p.bytes)
  pub goes_on : new ≡ record p { bytes = []; step = Over }

-- the plan with the entries of one act more
abbrev pub with_made : PlanState → List At → PlanState
with_made p made = record p { names = p.names ++ made }

-- After an update's diff its delta is taken where the target holds it, and else folded, as it was handed back.
abbrev pub TakesOrFolds : Bool → PlanState → List At → List ℕ → Do → PlanState → Type 0
TakesOrFolds true p made bytes next new = Asks p Takes [] [] next new
TakesOrFolds false p made bytes next new = Asks p Folds made bytes next new

-- what comes after an act that made these entries and was answered these bytes
abbrev pub GoesOn : PlanState → Kind → List At → List ℕ → Do → PlanState → Type 0
GoesOn p Fetches made bytes next new = Closes (record (with_made p made) { bytes = bytes }) next new
GoesOn p Diffs made bytes next new = TakesOrFolds (takes_delta p.mode) (with_made p made) made bytes next new
GoesOn p Takes made bytes next new = Asks (with_made p made) Folds made bytes next new
GoesOn p Folds made bytes next new = Closes (with_made p made) next new
GoesOn p Puts made bytes next new = ⊥
GoesOn p Holds made bytes next new = ⊥

-- What a plan asks for next, by how far it has come and what was said to what it asked for last.
abbrev pub NextAt : Step → Option Said → PlanState → Do → PlanState → Type 0
NextAt Begun None p next new = Asks p (first_act p.task.kind) [] p.task.bytes next new
NextAt (Acting act) (Some (said.Target (acted.Answer (Good bytes made)))) p next new = GoesOn p act made bytes next new
NextAt Closing (Some (said.Book (Closed at))) p next new = Replies p next new
NextAt _ _ p next new = ⊥

abbrev pub HasNext : PlanState → Option Said → Do → PlanState → Type 0
HasNext p said next new = NextAt p.step said p next new

-- there are plans that make this act
abbrev pub IsPlannedAct : Kind → Type 0
IsPlannedAct Puts = ⊥
IsPlannedAct Holds = ⊥
IsPlannedAct _ = Unit {0}

-- an act was done
abbrev pub IsDone : Option Said → Type 0
IsDone (Some (said.Target (acted.Answer (Good bytes made)))) = Unit {0}
IsDone _ = ⊥

-- What is said answers what the plan asked for last: its first act, nothing; an act, that it was done; a close, its entry. What
-- else may be answered there are no plans for yet.
abbrev pub AnswersAt : Step → Option Said → Type 0
AnswersAt Begun None = Unit {0}
AnswersAt (Acting act) (Some (said.Target (acted.Answer (Good bytes made)))) = IsPlannedAct act
AnswersAt Closing (Some (said.Book (Closed at))) = Unit {0}
AnswersAt _ _ = ⊥
