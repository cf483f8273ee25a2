-- An order for an act that is due is served, where the disk works and no medium fails: the act's entry is made, and answered. The
-- journal has the newest entry first.
use Rattle.std.specs.Prelude.{◌≡◌, ◌≢◌, ◌≤◌, ◌∷◌, ℕ, true, false, List, [], length, Some}
use Rattle.stripe_layout.specs.declared.mode.Mode.{Mode}
use Rattle.stripe_layout.specs.Modes.{hands_delta_back}
use Rattle.sbc_cdbs.specs.declared.descriptor.Cdb.{Cdb}
use Rattle.sbc_cdbs.specs.Cdbs.{cdb_bytes}
use Rattle.xor_buffers.specs.Held.{rows_held}
use Rattle.array_journal.specs.declared.act.Act.{Act as Kind}
use Rattle.array_journal.specs.declared.act.Act.TheVariants.{Fetches, Puts, Diffs, Takes, Folds, Holds}
use Rattle.array_journal.specs.declared.entry.Entry.{Entry}
use Rattle.array_journal.specs.declared.event.Event.{Event}
use Rattle.array_journal.specs.declared.event.Event.TheVariants as events
use Rattle.array_journal.specs.declared.setting.Setting.{Setting}
use Rattle.array_journal.specs.declared.task.Task.{Task}
use Rattle.array_journal.specs.Acts.{task_bytes}
use Rattle.array_journal.specs.Deltas.{delta_of}
use Rattle.array_journal.specs.Lives.{is_gone}
use Rattle.array_journal.specs.Media.{held, rows_on}
use Rattle.array_journal.specs.Run.{Grows, IsSetting}
use Rattle.array_journal.specs.Served.{IsDue}
use Rattle.xor_target.specs.declared.answer.Answer.{Answer}
use Rattle.xor_target.specs.declared.answer.Answer.TheVariants.{Good, Memory}
use Rattle.xor_target.specs.declared.order.Order.{Order}
use Rattle.xor_target.specs.Answers.{IsAnswered, next_name, next_entry}
use Rattle.xor_target.specs.State.{TargetState}
use Rattle.unit_plans.specs.Buses.{BusSetting, StandsOn}
use Rattle.unit_plans.specs.Conditions.{IsSentFor}

-- the kind of act that an order is sent for
abbrev pub kind_of : {s : Setting} → {past : List Entry} → {i : ℕ} → {order : Order} → IsSentFor s past i order → Kind
kind_of (IsSentFor.Fetching task asked brings) = Fetches
kind_of (IsSentFor.Putting task asked own) = Puts
kind_of (IsSentFor.Diffing task asked stays) = Diffs
kind_of (IsSentFor.Taking task asked brings) = Takes
kind_of (IsSentFor.Folding task name asked) = Folds

-- and the task of its command
abbrev pub task_sent : {s : Setting} → {past : List Entry} → {i : ℕ} → {order : Order} → IsSentFor s past i order → Task
task_sent (IsSentFor.Fetching task asked brings) = task
task_sent (IsSentFor.Putting task asked own) = task
task_sent (IsSentFor.Diffing task asked stays) = task
task_sent (IsSentFor.Taking task asked brings) = task
task_sent (IsSentFor.Folding task name asked) = task

-- the entry of an act that is done by an order, which answers these bytes
abbrev pub act_event : Mode → Kind → Order → Cdb → ℕ → List ℕ → Event
act_event mode Fetches order cdb row bytes = events.Fetch order.owner order.opened cdb row bytes
act_event mode Puts order cdb row bytes = events.Put order.owner order.opened cdb row order.bytes order.names
act_event mode Diffs order cdb row bytes = events.Diff order.owner order.opened cdb row order.bytes false false (hands_delta_back mode)
act_event mode Takes order cdb row bytes = events.Take order.owner order.opened cdb row bytes
act_event mode Folds order cdb row bytes = events.Fold order.owner order.opened cdb row order.bytes order.names
act_event mode Holds order cdb row bytes = events.Hold order.owner order.opened cdb row bytes true order.names false

-- what an act answers: a fetch what it read, a take what it took, a diff its delta where the mode hands it back
abbrev pub IsAnswerOf : Setting → ℕ → Kind → Task → List ℕ → List ℕ → List Entry → Type 0
IsAnswerOf s i Fetches task written bytes past = bytes ≡ rows_on s i past task.row (task_bytes s task)
IsAnswerOf s i Puts task written bytes past = bytes ≡ []
IsAnswerOf s i Diffs task written bytes past = hands_delta_back s.mode ≡ true → bytes ≡ delta_of s i past task.row written
IsAnswerOf s i Takes task written bytes past = length bytes ≡ task_bytes s task
IsAnswerOf s i Folds task written bytes past = bytes ≡ []
IsAnswerOf s i Holds task written bytes past = Unit {0}

-- the act was done, by one entry
pub record IsServed (s : Setting) (t : TargetState) (order : Order) (kind : Kind) (task : Task) (answer : Answer) (after : TargetState) (past : List Entry) : Type 0 where
  pub cdb : Cdb
  pub bytes : List ℕ
  pub sent : cdb_bytes cdb ≡ order.cdb
  pub says : answer ≡ Good bytes (next_name t order.stamp ∷ [])
  pub grown : after.past ≡ next_entry t order.stamp (act_event s.mode kind order cdb task.row bytes) ∷ t.past
  pub read : IsAnswerOf s t.number kind task order.bytes bytes past

-- what is taken is held
abbrev pub HoldsWhatIsTaken : Setting → ℕ → Kind → Order → Task → List Entry → Type 0
HoldsWhatIsTaken s i Takes order task past = (bytes : List ℕ) × (rows_held s.geometry.block order.owner task.row (task_bytes s task) (held s i past) ≡ Some bytes)
HoldsWhatIsTaken s i kind order task past = Unit {0}

-- the blocks of an XOR write are no more than the maximum, where there is one
abbrev pub FitsMaximum : BusSetting → Kind → Task → Type 0
FitsMaximum b Diffs task = b.max_write ≢ 0 → task.count ≤ b.max_write
FitsMaximum b Folds task = b.max_write ≢ 0 → task.count ≤ b.max_write
FitsMaximum b kind task = Unit {0}

abbrev pub OrdersAreServed : Type 0
OrdersAreServed =
    (b : BusSetting) (t after : TargetState) (order : Order) (answer : Answer) (past : List Entry) → IsSetting b.array → Grows b.array past → StandsOn b t past →
    (sent : IsSentFor b.array past t.number order) → IsDue b.array past t.number order.owner order.opened (task_sent sent) (kind_of sent) →
    HoldsWhatIsTaken b.array t.number (kind_of sent) order (task_sent sent) past → FitsMaximum b (kind_of sent) (task_sent sent) → is_gone t.number t.past ≡ false → IsAnswered true t order answer after → answer ≢ Memory →
    IsServed b.array t order (kind_of sent) (task_sent sent) answer after past
