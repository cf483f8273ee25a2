use Rattle.std.proofs.Common.{◌≡◌, ◌++◌, ap, sym, ◌∙◌, map, List, [], ◌∷◌, length, append-nil, refl, arith}
use Rattle.std.specs.Vec.Iter.{into_iter_items}
use Rattle.xor_target.specs.State.{TargetState}
use Rattle.history_locks.specs.PlainBuses.{entries_of}
use Rattle.history_locks.proofs.plain_bus.PlainBus.into_lists.Goals as goal

-- all that was taken, when nothing is left
all-taken : {A : Type 0} (f : TargetState → A) (done whole : List A) (left : List TargetState) → left ≡ [] → done ++ map f left ≡ whole → done ≡ whole
all-taken f done whole left none all = sym (append-nil done) ∙ ap (λ (ts : List TargetState). done ++ map f ts) (sym none) ∙ all

none-left : (ts : List TargetState) → length ts ≡ 0 → ts ≡ []
none-left [] h = refl
none-left (t ∷ ts) h = absurd (omega (arith, h))

pub returns-clause-lists : goal.returns-clause-lists
returns-clause-lists g c =
    let none : into_iter_items c.loop-target.target-iterator ≡ [] = none-left _ (sym c.loop-target.target-iterator.rest.ok.0 ∙ c.in-None.ensures.steps.0) in
    all-taken entries_of _ _ (into_iter_items c.loop-target.target-iterator) none c.loop-target.invariant.0

pub returns-clause-contents : goal.returns-clause-contents
returns-clause-contents g c =
    let none : into_iter_items c.loop-target.target-iterator ≡ [] = none-left _ (sym c.loop-target.target-iterator.rest.ok.0 ∙ c.in-None.ensures.steps.0) in
    all-taken (λ (t : TargetState). t.contents) _ _ (into_iter_items c.loop-target.target-iterator) none c.loop-target.invariant.1.0

pub returns-clause-faults : goal.returns-clause-faults
returns-clause-faults g c =
    let none : into_iter_items c.loop-target.target-iterator ≡ [] = none-left _ (sym c.loop-target.target-iterator.rest.ok.0 ∙ c.in-None.ensures.steps.0) in
    all-taken (λ (t : TargetState). t.faults) _ _ (into_iter_items c.loop-target.target-iterator) none c.loop-target.invariant.1.1
