-- How a plan follows its command: what stands in the journal of it when something was asked for, and when that was answered. The
-- journal has the newest entry first.
use Rattle.std.specs.Prelude.{◌≡◌, ◌++◌, ◌+◌, ◌<◌, ℕ, Bool, true, false, List, [], ◌∷◌, Option, Some, None, length, map, reverse, if◌then◌else◌}
use Rattle.std.specs.List.{AllByRecursion}
use Rattle.stripe_layout.specs.declared.mode.Mode.{Mode}
use Rattle.stripe_layout.specs.Modes.{takes_delta, hands_delta_back}
use Rattle.sbc_cdbs.specs.declared.descriptor.Cdb.{Cdb}
use Rattle.array_journal.specs.declared.act.Act.{Act as Kind}
use Rattle.array_journal.specs.declared.act.Act.TheVariants.{Fetches, Puts, Diffs, Takes, Folds, Holds}
use Rattle.array_journal.specs.declared.at.At.{At}
use Rattle.array_journal.specs.declared.entry.Entry.{Entry}
use Rattle.array_journal.specs.declared.event.Event.{Event}
use Rattle.array_journal.specs.declared.event.Event.TheVariants.{Open, Close, Gone, Wiped, Fresh}
use Rattle.array_journal.specs.declared.task.Kind.{Kind as TaskKind}
use Rattle.array_journal.specs.declared.task.Kind.TheVariants.{Read, Update}
use Rattle.array_journal.specs.Acts.{task_bytes}
use Rattle.array_journal.specs.Deltas.{delta_at}
use Rattle.array_journal.specs.Entries.{entry_at, name_of}
use Rattle.array_journal.specs.May.{IsFoldSource, IsTask, bytes_of}
use Rattle.array_journal.specs.OwnEntries.{OfCommand, mine}
use Rattle.xor_target.specs.declared.answer.Answer.TheVariants.{Good}
use Rattle.xor_target.specs.declared.order.Order.{Order}
use Rattle.unit_plans.specs.declared.acts.Act.TheVariants.{Run}
use Rattle.unit_plans.specs.declared.acts.Acted.TheVariants as acted
use Rattle.unit_plans.specs.declared.acts.BookAct.TheVariants as books
use Rattle.unit_plans.specs.declared.acts.BookActed.TheVariants as booked
use Rattle.unit_plans.specs.declared.doings.Do.{Do}
use Rattle.unit_plans.specs.declared.doings.Do.TheVariants as dos
use Rattle.unit_plans.specs.declared.doings.Said.{Said}
use Rattle.unit_plans.specs.declared.doings.Said.TheVariants as says
use Rattle.unit_plans.specs.declared.steps.Step.{Step}
use Rattle.unit_plans.specs.declared.steps.Step.TheVariants.{Begun, Acting, Closing, Over}
use Rattle.unit_plans.specs.Buses.{BusSetting}
use Rattle.unit_plans.specs.Conditions.{CanAct, CanBook}
use Rattle.unit_plans.specs.Plans.{PlanState, plan_order}
use Rattle.unit_plans.specs.ServedOrders.{act_event, FitsMaximum}
use Rattle.unit_plans.specs.Steps.{target_of}

-- ---- what a command has made

-- the acts that come before this one, the newest first
abbrev pub before_act : Mode → Kind → List Kind
before_act mode Fetches = []
before_act mode Diffs = []
before_act mode Takes = Diffs ∷ []
before_act mode Folds = if takes_delta mode then Takes ∷ Diffs ∷ [] else Diffs ∷ []
before_act mode Puts = []
before_act mode Holds = []

-- all acts of a command, the newest first
abbrev pub all_acts : Mode → TaskKind → List Kind
all_acts mode Read = Fetches ∷ []
all_acts mode Update = Folds ∷ before_act mode Folds
all_acts mode _ = []

-- the acts that a plan's command has made at a step
abbrev pub made_at : Mode → TaskKind → Step → List Kind
made_at mode kind Begun = []
made_at mode kind (Acting act) = before_act mode act
made_at mode kind Closing = all_acts mode kind
made_at mode kind Over = all_acts mode kind

-- an entry is that of an act of a plan's command, by an order of it
pub record IsMadeBy (p : PlanState) (act : Kind) (e : Entry) : Type 0 where
  pub order : Order
  pub cdb : Cdb
  pub bytes : List ℕ
  pub lock : e.lock ≡ target_of p.task act + 1
  pub event : e.event ≡ act_event p.mode act order cdb p.task.row bytes
  pub owner : order.owner ≡ p.command
  pub written : act ≡ Diffs → order.bytes ≡ p.task.bytes

abbrev pub AreMadeBy : PlanState → List Kind → List Entry → Type 0
AreMadeBy p [] [] = Unit {0}
AreMadeBy p [] (e ∷ entries) = ⊥
AreMadeBy p (act ∷ acts) [] = ⊥
AreMadeBy p (act ∷ acts) (e ∷ entries) = IsMadeBy p act e × AreMadeBy p acts entries

abbrev pub opening_of : PlanState → Entry
opening_of p = record { stamp = p.opened.stamp; lock = 0; event = Open p.command p.task }

-- the bytes that a command which made these entries replies: what a read has fetched
abbrev pub replied : TaskKind → List Entry → List ℕ
replied Read (e ∷ entries) = bytes_of (Some e.event)
replied _ _ = []

-- The command of a plan of this bus was opened and has made these acts, and nothing else stands of it.
pub record IsFollowed (b : BusSetting) (p : PlanState) (acts : List Kind) (entries journal : List Entry) : Type 0 where
  pub geometry : p.geometry ≡ b.array.geometry
  pub mode : p.mode ≡ b.array.mode
  pub fits : p.task.kind ≡ Update → FitsMaximum b Diffs p.task
  pub sound : IsTask b.array p.task
  pub in_book : p.opened.lock ≡ 0
  pub own : mine (OfCommand p.command) journal ≡ entries ++ opening_of p ∷ []
  pub made : AreMadeBy p acts entries

-- ---- what was asked for

-- the kind of command that makes this act by a plan
abbrev pub kind_making : Kind → TaskKind
kind_making Fetches = Read
kind_making _ = Update

-- a fold rests on the one entry at the target of its task that its delta comes from
abbrev pub RestsOnOne : BusSetting → PlanState → List At → List ℕ → List Entry → Type 0
RestsOnOne b p (name ∷ []) bytes journal =
    (name.lock ≡ p.task.target + 1) × ((length bytes ≡ task_bytes b.array p.task) × IsFoldSource b.array journal p.command p.task name bytes (entry_at name journal))
RestsOnOne b p _ bytes journal = ⊥

-- what an act rests on that is asked for with these names and these bytes
abbrev pub RestsOn : BusSetting → PlanState → Kind → List At → List ℕ → List Entry → Type 0
RestsOn b p Fetches names bytes journal = (names ≡ []) × (bytes ≡ [])
RestsOn b p Diffs names bytes journal = (names ≡ []) × (bytes ≡ p.task.bytes)
RestsOn b p Takes names bytes journal = (takes_delta p.mode ≡ true) × ((names ≡ []) × (bytes ≡ []))
RestsOn b p Folds names bytes journal = RestsOnOne b p names bytes journal
RestsOn b p Puts names bytes journal = ⊥
RestsOn b p Holds names bytes journal = ⊥

pub record AsksForAct (b : BusSetting) (p : PlanState) (act : Kind) (next : Do) (journal : List Entry) : Type 0 where
  pub kind : p.task.kind ≡ kind_making act
  pub names : List At
  pub bytes : List ℕ
  pub says : next ≡ dos.Target (target_of p.task act) (Run (plan_order p act names bytes))
  pub rests : RestsOn b p act names bytes journal

-- what is asked for at a step
abbrev pub IsOnStep : Step → BusSetting → PlanState → Do → List Entry → Type 0
IsOnStep Begun b p next journal = ⊥
IsOnStep (Acting act) b p next journal = AsksForAct b p act next journal
IsOnStep Closing b p next journal = next ≡ dos.Book (books.Close p.command (record { done = true; names = p.names; cause = None; bytes = [] }))
IsOnStep Over b p next journal = ⊥

-- The plan asked for this last, over what its command has made.
pub record HasAsked (b : BusSetting) (p : PlanState) (next : Do) (journal : List Entry) : Type 0 where
  pub entries : List Entry
  pub followed : IsFollowed b p (made_at p.mode p.task.kind p.step) entries journal
  pub named : p.names ≡ map name_of (reverse entries)
  pub replies : p.bytes ≡ replied p.task.kind entries
  pub on : IsOnStep p.step b p next journal

-- it may be done, by who has made these entries
abbrev pub CanDo : BusSetting → List Entry → List Entry → Do → Type 0
CanDo b journal made (dos.Target number act) = (number < b.array.geometry.targets) × CanAct b.array journal made number act
CanDo b journal made (dos.Book act) = CanBook b.array journal made act
CanDo b journal made _ = Unit {0}

-- ---- what was said to it

-- what an act was answered, which made this entry
abbrev pub IsAnswered : BusSetting → PlanState → Kind → Entry → List ℕ → List Entry → Type 0
IsAnswered b p Fetches e bytes journal = bytes ≡ bytes_of (Some e.event)
IsAnswered b p Diffs e bytes journal =
    hands_delta_back p.mode ≡ true → (delta_at b.array p.task.target (name_of e) journal ≡ Some bytes) × (length bytes ≡ task_bytes b.array p.task)
IsAnswered b p Takes e bytes journal = (takes_delta p.mode ≡ true) × ((bytes ≡ bytes_of (Some e.event)) × (length bytes ≡ task_bytes b.array p.task))
IsAnswered b p Folds e bytes journal = Unit {0}
IsAnswered b p Puts e bytes journal = ⊥
IsAnswered b p Holds e bytes journal = ⊥

pub record ActWasDone (b : BusSetting) (p : PlanState) (act : Kind) (said : Option Said) (journal : List Entry) : Type 0 where
  pub entry : Entry
  pub entries : List Entry
  pub past : List Entry
  pub newest : journal ≡ entry ∷ past
  pub bytes : List ℕ
  pub kind : p.task.kind ≡ kind_making act
  pub says : said ≡ Some (says.Target (acted.Answer (Good bytes (name_of entry ∷ []))))
  pub followed : IsFollowed b p (act ∷ before_act p.mode act) (entry ∷ entries) journal
  pub named : p.names ≡ map name_of (reverse entries)
  pub replies : p.bytes ≡ []
  pub answered : IsAnswered b p act entry bytes journal

-- the command was closed as done, by its own entries
pub record WasClosed (b : BusSetting) (p : PlanState) (said : Option Said) (journal : List Entry) : Type 0 where
  pub at : At
  pub entry : Entry
  pub entries : List Entry
  pub past : List Entry
  pub says : said ≡ Some (says.Book (booked.Closed at))
  pub event : entry.event ≡ Close p.command true p.names None []
  pub newest : journal ≡ entry ∷ past
  pub followed : IsFollowed b p (all_acts p.mode p.task.kind) entries past
  pub named : p.names ≡ map name_of (reverse entries)
  pub replies : p.bytes ≡ replied p.task.kind entries

-- what was said to a plan, at a step
abbrev pub IsToldAt : Step → BusSetting → PlanState → Option Said → List Entry → Type 0
IsToldAt Begun b p said journal = (said ≡ None) × ((p.names ≡ []) × ((p.bytes ≡ []) × IsFollowed b p [] [] journal))
IsToldAt (Acting act) b p said journal = ActWasDone b p act said journal
IsToldAt Closing b p said journal = WasClosed b p said journal
IsToldAt Over b p said journal = ⊥

abbrev pub IsTold : BusSetting → PlanState → Option Said → List Entry → Type 0
IsTold b p said journal = IsToldAt p.step b p said journal

-- one entry came
abbrev pub HasGrown : List Entry → List Entry → Type 0
HasGrown journal now = (entry : Entry) × (now ≡ entry ∷ journal)

-- ---- what plans have no answer for yet

-- the event befalls a target
abbrev pub befalls : Event → Bool
befalls (Gone life call commands) = true
befalls (Wiped what call commands) = true
befalls (Fresh call swap) = true
befalls _ = false

-- Nothing befell a target: no disk was lost, no buffer was reset, and no request is to be dropped.
abbrev pub IsUndisturbed : List Entry → Type 0
IsUndisturbed journal = AllByRecursion (λ (e : Entry). befalls e.event ≡ false) journal
