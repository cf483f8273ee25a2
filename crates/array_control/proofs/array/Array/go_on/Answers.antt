use Rattle.std.proofs.Common.{Some}
use Rattle.unit_plans.proofs.Asked.{plans-ask}
use Rattle.unit_plans.proofs.GoesOn.{plans-answered}
use Rattle.array_control.proofs.Following.{told-did, calm-true}
use Rattle.array_control.proofs.array.Array.go_on.Goals as goal

pub perform-requires-clause-may : goal.perform-requires-clause-may
perform-requires-clause-may g c = plans-ask _ c.args.doing.plan c.args.doing.next _ c.requires.calm.in_range c.requires.plan c.requires.calm.runs c.requires.asked

pub next-requires : goal.next-requires
next-requires g c =
    plans-answered _ c.args.doing.plan (Some c.in_ok-said.said) _
    (told-did _ c.args.doing.plan c.args.doing.next c.in_ok-said.said _ _ (calm-true _ _ _ _ c.requires.calm) c.requires.plan c.requires.asked c.in_ok-said.ensures.done).0

pub returns-clause-went_on : goal.returns-clause-went_on
returns-clause-went_on g c =
    let told = told-did _ c.args.doing.plan c.args.doing.next c.in_ok-said.said _ _ (calm-true _ _ _ _ c.requires.calm) c.requires.plan c.requires.asked c.in_ok-said.ensures.done in
    record { said = Some c.in_ok-said.said; told = told.0; next = c.in_ok-next.ensures; undisturbed = told.1; grown = told.2 }
