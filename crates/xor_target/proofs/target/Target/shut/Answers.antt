use Rattle.std.proofs.Common.{◌≡◌, subst, IfOk, OnErr}
use Rattle.xor_target.specs.State.{TargetState, state_of}
use Rattle.xor_target.specs.Befalls.{IsShut}
use Rattle.xor_target.proofs.Handing.{unit-ok, unit-err, kept-target}
use Rattle.xor_target.proofs.KeptBefalls.{shut-target}
use Rattle.xor_target.proofs.target.Target.shut.Goals as goal

pub invariant_of-self : goal.invariant_of-self
invariant_of-self g c =
    let inside = c.self.inside in
    let unit = inside.unit.logged in
    let waiting = inside.unit.waiting.list in
    let new = c.shut.new.self in
    let before = state_of inside.targets inside.first inside.page waiting unit.disk unit.log in
    let after = state_of inside.targets inside.first inside.page new.waiting.list new.logged.disk new.logged.log in
    kept-target c.shut.result before after (λ a. IsShut before c.args.owner c.args.opened c.args.stamp a after)
    (unit-ok c.shut.result (λ a n f p. IsShut (state_of n f p waiting unit.disk unit.log) c.args.owner c.args.opened c.args.stamp a (state_of n f p new.waiting.list new.logged.disk new.logged.log)) inside.targets inside.first inside.page c.shut.ensures.shut)
    (unit-err c.shut.result (λ n f p. state_of n f p new.waiting.list new.logged.disk new.logged.log ≡ state_of n f p waiting unit.disk unit.log) inside.targets inside.first inside.page c.shut.ensures.memory)
    (λ a s. shut-target before c.args.owner c.args.opened c.args.stamp a after c.self.invariant s) c.self.invariant

pub returns-clause-shut : goal.returns-clause-shut
returns-clause-shut g c =
    let inside = c.self.inside in
    let unit = inside.unit.logged in
    let waiting = inside.unit.waiting.list in
    let new = c.shut.new.self in
    let after = state_of inside.targets inside.first inside.page new.waiting.list new.logged.disk new.logged.log in
    subst (λ (t : TargetState). IfOk c.shut.result (λ a. IsShut t c.args.owner c.args.opened c.args.stamp a after)) c.self.view_is
    (unit-ok c.shut.result (λ a n f p. IsShut (state_of n f p waiting unit.disk unit.log) c.args.owner c.args.opened c.args.stamp a (state_of n f p new.waiting.list new.logged.disk new.logged.log)) inside.targets inside.first inside.page c.shut.ensures.shut)

pub returns-clause-memory : goal.returns-clause-memory
returns-clause-memory g c =
    let inside = c.self.inside in
    let unit = inside.unit.logged in
    let waiting = inside.unit.waiting.list in
    let new = c.shut.new.self in
    let after = state_of inside.targets inside.first inside.page new.waiting.list new.logged.disk new.logged.log in
    subst (λ (t : TargetState). OnErr c.shut.result (after ≡ t)) c.self.view_is
    (unit-err c.shut.result (λ n f p. state_of n f p new.waiting.list new.logged.disk new.logged.log ≡ state_of n f p waiting unit.disk unit.log) inside.targets inside.first inside.page c.shut.ensures.memory)
