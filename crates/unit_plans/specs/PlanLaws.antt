-- The laws of plans, over a bus that is alone: what a plan asks for may be done; what comes of it is said to it; and so it comes to
-- its end, having made each act of its command once. The journal has the newest entry first, and is a run so far.
use Rattle.std.specs.Prelude.{◌≡◌, ◌++◌, ℕ, true, false, List, ◌∷◌, Option, Some, None}
use Rattle.std.specs.List.{AllByRecursion}
use Rattle.array_journal.specs.declared.act.Act.TheVariants.{Diffs}
use Rattle.array_journal.specs.declared.at.At.{At}
use Rattle.array_journal.specs.declared.entry.Entry.{Entry}
use Rattle.array_journal.specs.declared.task.Kind.TheVariants.{Update}
use Rattle.array_journal.specs.declared.task.Task.{Task}
use Rattle.array_journal.specs.Laws.{lane}
use Rattle.array_journal.specs.OwnEntries.{OfCommand, carries}
use Rattle.array_journal.specs.Run.{Grows, IsSetting}
use Rattle.array_book.specs.declared.answers.Begun.TheVariants as opens
use Rattle.array_book.specs.declared.asks.Ask.{Ask}
use Rattle.array_book.specs.BookAnswers.{HasBegun}
use Rattle.array_book.specs.Ledgers.{Ledger}
use Rattle.unit_plans.specs.declared.acts.Act.{Act}
use Rattle.unit_plans.specs.declared.acts.Acted.{Acted}
use Rattle.unit_plans.specs.declared.acts.BookAct.{BookAct}
use Rattle.unit_plans.specs.declared.acts.BookActed.{BookActed}
use Rattle.unit_plans.specs.declared.doings.Do.{Do}
use Rattle.unit_plans.specs.declared.doings.Do.TheVariants as dos
use Rattle.unit_plans.specs.declared.doings.Said.{Said}
use Rattle.unit_plans.specs.declared.doings.Said.TheVariants as says
use Rattle.unit_plans.specs.declared.steps.Step.TheVariants.{Closing}
use Rattle.unit_plans.specs.Buses.{BusSetting}
use Rattle.unit_plans.specs.Effects.{IsDoneAt, IsDoneInBook}
use Rattle.unit_plans.specs.Follows.{HasAsked, CanDo, IsTold, IsUndisturbed, HasGrown}
use Rattle.unit_plans.specs.Plans.{PlanState, IsPlan, IsPlanned, HasNext, AnswersAt, begun}
use Rattle.unit_plans.specs.ServedOrders.{FitsMaximum}

-- What a plan asks for may be done.
abbrev pub PlansAskWhatMayBeDone : Type 0
PlansAskWhatMayBeDone =
    (b : BusSetting) (p : PlanState) (next : Do) (journal : List Entry) → IsSetting b.array → IsPlan p → Grows b.array journal → HasAsked b p next journal →
    CanDo b journal journal next

-- What came of an act at a target is said to it, where nothing befell a target and no medium fails.
abbrev pub PlansAreToldOfActs : Type 0
PlansAreToldOfActs =
    (b : BusSetting) (p : PlanState) (number : ℕ) (act : Act) (acted : Acted) (journal now : List Entry) → IsSetting b.array → IsPlan p → Grows b.array journal →
    IsUndisturbed journal → HasAsked b p (dos.Target number act) journal → IsDoneAt true true b number act acted journal journal now now →
    IsTold b p (Some (says.Target acted)) now × IsUndisturbed now × HasGrown journal now

-- So is that its command was closed.
abbrev pub PlansAreToldOfCloses : Type 0
PlansAreToldOfCloses =
    (b : BusSetting) (p : PlanState) (act : BookAct) (acted : BookActed) (journal now : List Entry) → IsPlan p → Grows b.array journal → IsUndisturbed journal →
    HasAsked b p (dos.Book act) journal → IsDoneInBook true b act acted journal journal now now → IsTold b p (Some (says.Book acted)) now × IsUndisturbed now × HasGrown journal now

-- It goes on from what it is told: that is an answer to what it asked, and what it asks next follows what its command has made.
abbrev pub PlansGoOn : Type 0
PlansGoOn =
    (b : BusSetting) (p new : PlanState) (said : Option Said) (next : Do) (journal : List Entry) → IsPlan p → Grows b.array journal → (p.step ≡ Closing → ⊥) →
    IsTold b p said journal → HasNext p said next new → HasAsked b new next journal

abbrev pub PlansAreAnswered : Type 0
PlansAreAnswered = (b : BusSetting) (p : PlanState) (said : Option Said) (journal : List Entry) → IsTold b p said journal → AnswersAt p.step said

-- Entries of others leave what it has asked for.
abbrev pub PlansAreLeft : Type 0
PlansAreLeft =
    (b : BusSetting) (p : PlanState) (next : Do) (others journal : List Entry) → IsPlan p → Grows b.array (others ++ journal) →
    AllByRecursion (λ (e : Entry). carries (OfCommand p.command) e.event ≡ false) others → HasAsked b p next journal → HasAsked b p next (others ++ journal)

-- A command that the book has just opened stands at its beginning: its opening is all that there is of it.
abbrev pub PlansBegin : Type 0
PlansBegin =
    (b : BusSetting) (book after : Ledger) (ask : Ask) (at : At) (command : ℕ) (task : Task) (seen : ℕ) (journal : List Entry) → IsSetting b.array →
    Grows b.array journal → book.setting ≡ b.array → lane 0 journal ≡ book.past → HasBegun book ask seen after (opens.Opened at command task) →
    IsPlanned b.array.mode task.kind → (task.kind ≡ Update → FitsMaximum b Diffs task) → (entry : Entry) → after.past ≡ entry ∷ book.past →
    IsTold b (begun b.array.geometry b.array.mode task command at) None (entry ∷ journal)
