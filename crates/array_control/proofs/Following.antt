-- A plan is followed over a bus: what it asks for is done, and it goes on from what came of it.
use Rattle.std.specs.Prelude.{Bool, true, List, Some}
use Rattle.std.proofs.Common.{refl}
use Rattle.array_journal.specs.declared.entry.Entry.{Entry}
use Rattle.unit_plans.specs.declared.doings.Do.{Do}
use Rattle.unit_plans.specs.declared.doings.Do.TheVariants as dos
use Rattle.unit_plans.specs.declared.doings.Said.{Said}
use Rattle.unit_plans.specs.declared.doings.Said.TheVariants as says
use Rattle.unit_plans.specs.Buses.{BusSetting}
use Rattle.unit_plans.specs.Follows.{HasAsked, HasGrown, IsTold, IsUndisturbed}
use Rattle.unit_plans.specs.Plans.{PlanState, IsPlan}
use Rattle.unit_plans.proofs.Served.{orders-served}
use Rattle.unit_plans.proofs.Told.{told-acts}
use Rattle.unit_plans.proofs.ToldCloses.{told-closes}
use Rattle.array_control.specs.Arrays.{DidDo, IsCalm}

-- what came of what was asked for is said to the plan
pub told-did : (b : BusSetting) (p : PlanState) (next : Do) (said : Said) (journal now : List Entry) → IsCalm true true b journal → IsPlan p → HasAsked b p next journal →
    DidDo b next said journal now → IsTold b p (Some said) now × IsUndisturbed now × HasGrown journal now
told-did b p (dos.Target number act) (says.Target acted) journal now calm plan asked did =
    told-acts orders-served b p number act acted journal now calm.in_range plan calm.runs calm.undisturbed asked did
told-did b p (dos.Book act) (says.Book acted) journal now calm plan asked did = told-closes b p act acted journal now plan calm.runs calm.undisturbed asked did
told-did b p (dos.Target number act) (says.Book acted) journal now calm plan asked did = absurd did
told-did b p (dos.Book act) (says.Target acted) journal now calm plan asked did = absurd did
told-did b p (dos.Reply reply) said journal now calm plan asked did = absurd did
told-did b p dos.Anew said journal now calm plan asked did = absurd did

pub calm-true : (alone reliable : Bool) (b : BusSetting) (journal : List Entry) → IsCalm alone reliable b journal → IsCalm true true b journal
calm-true alone reliable b journal c =
    record { is_alone = refl; is_reliable = refl; planned = c.planned; in_range = c.in_range; runs = c.runs; undisturbed = c.undisturbed }
