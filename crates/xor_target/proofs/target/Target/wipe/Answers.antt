use Rattle.std.proofs.Common.{◌≡◌, subst, IfOk, OnErr}
use Rattle.xor_target.specs.State.{TargetState, state_of}
use Rattle.xor_target.specs.Befalls.{IsReset}
use Rattle.xor_target.proofs.Handing.{ok-at, err-at, kept-target}
use Rattle.xor_target.proofs.KeptBefalls.{reset-target}
use Rattle.xor_target.proofs.target.Target.wipe.Goals as goal

pub invariant_of-self : goal.invariant_of-self
invariant_of-self g c =
    let inside = c.self.inside in
    let unit = inside.unit.logged in
    let new = c.wipe.new.self in
    let before = state_of inside.targets inside.first inside.page inside.unit.waiting.list unit.disk unit.log in
    let after = state_of inside.targets inside.first inside.page inside.unit.waiting.list new.disk new.log in
    kept-target c.wipe.result before after (λ a. IsReset before c.args.call c.args.stamp a after)
    (ok-at c.wipe.result (λ a n f p w. IsReset (state_of n f p w unit.disk unit.log) c.args.call c.args.stamp a (state_of n f p w new.disk new.log)) inside.targets inside.first inside.page inside.unit.waiting.list c.wipe.ensures.reset)
    (err-at c.wipe.result (λ n f p w. state_of n f p w new.disk new.log ≡ state_of n f p w unit.disk unit.log) inside.targets inside.first inside.page inside.unit.waiting.list c.wipe.ensures.memory)
    (λ a s. reset-target before c.args.call c.args.stamp a after c.self.invariant s) c.self.invariant

pub returns-clause-reset : goal.returns-clause-reset
returns-clause-reset g c =
    let inside = c.self.inside in
    let unit = inside.unit.logged in
    let new = c.wipe.new.self in
    let after = state_of inside.targets inside.first inside.page inside.unit.waiting.list new.disk new.log in
    subst (λ (t : TargetState). IfOk c.wipe.result (λ a. IsReset t c.args.call c.args.stamp a after)) c.self.view_is
    (ok-at c.wipe.result (λ a n f p w. IsReset (state_of n f p w unit.disk unit.log) c.args.call c.args.stamp a (state_of n f p w new.disk new.log)) inside.targets inside.first inside.page inside.unit.waiting.list c.wipe.ensures.reset)

pub returns-clause-memory : goal.returns-clause-memory
returns-clause-memory g c =
    let inside = c.self.inside in
    let unit = inside.unit.logged in
    let new = c.wipe.new.self in
    let after = state_of inside.targets inside.first inside.page inside.unit.waiting.list new.disk new.log in
    subst (λ (t : TargetState). OnErr c.wipe.result (after ≡ t)) c.self.view_is
    (err-at c.wipe.result (λ n f p w. state_of n f p w new.disk new.log ≡ state_of n f p w unit.disk unit.log) inside.targets inside.first inside.page inside.unit.waiting.list c.wipe.ensures.memory)
