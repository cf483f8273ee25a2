-- What a plan asks for may be done.
use Rattle.std.specs.Prelude.{◌≡◌, true, List, [], map, reverse, None}
use Rattle.std.proofs.Common.{sym, subst}
use Rattle.array_journal.specs.declared.at.At.{At}
use Rattle.array_journal.specs.declared.entry.Entry.{Entry}
use Rattle.array_journal.specs.declared.event.Event.TheVariants.{Close}
use Rattle.array_journal.specs.Entries.{name_of}
use Rattle.array_journal.specs.Run.{Grows, IsSetting}
use Rattle.unit_plans.specs.declared.doings.Do.{Do}
use Rattle.unit_plans.specs.declared.steps.Step.{Step}
use Rattle.unit_plans.specs.declared.steps.Step.TheVariants.{Begun, Acting, Closing, Over}
use Rattle.unit_plans.specs.Buses.{BusSetting}
use Rattle.unit_plans.specs.Conditions.{CanEndBy}
use Rattle.unit_plans.specs.Follows.{IsFollowed, IsOnStep, CanDo, made_at}
use Rattle.unit_plans.specs.PlanLaws.{PlansAskWhatMayBeDone}
use Rattle.unit_plans.specs.Plans.{PlanState, IsPlan}
use Rattle.unit_plans.proofs.AskedActs.{can-act, target-below}
use Rattle.unit_plans.proofs.AskedCloses.{can-close}

asks-at : (b : BusSetting) (p : PlanState) (next : Do) (entries journal : List Entry) (step : Step) → IsSetting b.array → IsPlan p → Grows b.array journal →
    IsFollowed b p (made_at p.mode p.task.kind step) entries journal → p.names ≡ map name_of (reverse entries) → IsOnStep step b p next journal → CanDo b journal journal next
asks-at b p next entries journal Begun set plan g f named on = absurd on
asks-at b p next entries journal (Acting act) set plan g f named on =
    subst (CanDo b journal journal) (sym on.says)
    (target-below b p entries journal act set plan g f on.kind, can-act b p entries journal set plan g act on.names on.bytes f on.kind on.rests)
asks-at b p next entries journal Closing set plan g f named on =
    subst (CanDo b journal journal) (sym on)
    (subst (λ (names : List At). CanEndBy b.array journal journal p.command (Close p.command true names None [])) (sym named) (can-close b p entries journal set plan g f))
asks-at b p next entries journal Over set plan g f named on = absurd on

pub plans-ask : PlansAskWhatMayBeDone
plans-ask b p next journal set plan g asked = asks-at b p next asked.entries journal p.step set plan g asked.followed asked.named asked.on
