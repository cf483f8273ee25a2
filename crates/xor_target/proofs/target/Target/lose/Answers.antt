use Rattle.std.proofs.Common.{◌≡◌, subst, IfOk, OnErr}
use Rattle.xor_target.specs.State.{TargetState, state_of}
use Rattle.xor_target.specs.Befalls.{IsLost}
use Rattle.xor_target.proofs.Handing.{unit-ok, unit-err, kept-target}
use Rattle.xor_target.proofs.KeptBefalls.{lost-target}
use Rattle.xor_target.proofs.target.Target.lose.Goals as goal

pub invariant_of-self : goal.invariant_of-self
invariant_of-self g c =
    let inside = c.self.inside in
    let unit = inside.unit.logged in
    let waiting = inside.unit.waiting.list in
    let new = c.lose.new.self in
    let before = state_of inside.targets inside.first inside.page waiting unit.disk unit.log in
    let after = state_of inside.targets inside.first inside.page new.waiting.list new.logged.disk new.logged.log in
    kept-target c.lose.result before after (λ a. IsLost before c.args.call c.args.stamp a after)
    (unit-ok c.lose.result (λ a n f p. IsLost (state_of n f p waiting unit.disk unit.log) c.args.call c.args.stamp a (state_of n f p new.waiting.list new.logged.disk new.logged.log)) inside.targets inside.first inside.page c.lose.ensures.lost)
    (unit-err c.lose.result (λ n f p. state_of n f p new.waiting.list new.logged.disk new.logged.log ≡ state_of n f p waiting unit.disk unit.log) inside.targets inside.first inside.page c.lose.ensures.memory)
    (λ a s. lost-target before c.args.call c.args.stamp a after c.requires c.self.invariant s) c.self.invariant

pub returns-clause-lost : goal.returns-clause-lost
returns-clause-lost g c =
    let inside = c.self.inside in
    let unit = inside.unit.logged in
    let waiting = inside.unit.waiting.list in
    let new = c.lose.new.self in
    let after = state_of inside.targets inside.first inside.page new.waiting.list new.logged.disk new.logged.log in
    subst (λ (t : TargetState). IfOk c.lose.result (λ a. IsLost t c.args.call c.args.stamp a after)) c.self.view_is
    (unit-ok c.lose.result (λ a n f p. IsLost (state_of n f p waiting unit.disk unit.log) c.args.call c.args.stamp a (state_of n f p new.waiting.list new.logged.disk new.logged.log)) inside.targets inside.first inside.page c.lose.ensures.lost)

pub returns-clause-memory : goal.returns-clause-memory
returns-clause-memory g c =
    let inside = c.self.inside in
    let unit = inside.unit.logged in
    let waiting = inside.unit.waiting.list in
    let new = c.lose.new.self in
    let after = state_of inside.targets inside.first inside.page new.waiting.list new.logged.disk new.logged.log in
    subst (λ (t : TargetState). OnErr c.lose.result (after ≡ t)) c.self.view_is
    (unit-err c.lose.result (λ n f p. state_of n f p new.waiting.list new.logged.disk new.logged.log ≡ state_of n f p waiting unit.disk unit.log) inside.targets inside.first inside.page c.lose.ensures.memory)
