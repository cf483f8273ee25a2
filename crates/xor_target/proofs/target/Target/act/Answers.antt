use Rattle.std.proofs.Common.{◌≡◌, ◌∙◌, subst, sym, IfOk, OnErr}
use Rattle.xor_target.specs.State.{TargetState, state_of}
use Rattle.xor_target.specs.Answers.{IsActed}
use Rattle.xor_target.specs.Acts.{IsAdmitted, IsFewWhereGone}
use Rattle.xor_target.proofs.Handing.{unit-ok, ok-both, unit-err, kept-target}
use Rattle.xor_target.proofs.KeptStates.{acted-target}
use Rattle.xor_target.proofs.Possible.{admitted-possible, admitted-finds, admitted-sound, admitted-held, due-of}
use Rattle.xor_target.proofs.target.Target.act.Goals as goal

pub act-requires-clause-possible : goal.act-requires-clause-possible
act-requires-clause-possible g c =
    let inside = c.self.inside in
    let admitted = subst (λ (t : TargetState). IsAdmitted t c.args.order.now c.args.admitted.now) (sym c.self.view_is) c.requires.admitted in
    admitted-possible inside.targets inside.first inside.page inside.unit.waiting.list inside.unit.logged.disk inside.unit.logged.log c.args.order.now c.args.admitted.now admitted c.requires.blocks

pub invariant_of-self : goal.invariant_of-self
invariant_of-self g c =
    let never = g.M.Medium.NEVER_FAILS in
    let order = c.args.order.now in
    let command = c.args.admitted.now.command in
    let inside = c.self.inside in
    let unit = inside.unit.logged in
    let waiting = inside.unit.waiting.list in
    let new = c.act.new.self in
    let before = state_of inside.targets inside.first inside.page waiting unit.disk unit.log in
    let after = state_of inside.targets inside.first inside.page new.waiting.list new.logged.disk new.logged.log in
    let admitted = subst (λ (t : TargetState). IsAdmitted t order c.args.admitted.now) (sym c.self.view_is) c.requires.admitted in
    let possible = admitted-possible inside.targets inside.first inside.page waiting unit.disk unit.log order c.args.admitted.now admitted c.requires.blocks in
    let acted = unit-ok c.act.result (λ a n f p. IsActed never (state_of n f p waiting unit.disk unit.log) order command a (state_of n f p new.waiting.list new.logged.disk new.logged.log))
    inside.targets inside.first inside.page c.act.ensures.acted in
    kept-target c.act.result before after (λ a. IsActed never before order command a after × IsFewWhereGone new.logged.log.past a)
    (ok-both c.act.result (λ a. IsActed never before order command a after) (IsFewWhereGone new.logged.log.past) acted c.act.ensures.few)
    (unit-err c.act.result (λ n f p. state_of n f p new.waiting.list new.logged.disk new.logged.log ≡ state_of n f p waiting unit.disk unit.log) inside.targets inside.first inside.page c.act.ensures.memory)
    (λ a s. acted-target never before order command a after c.self.invariant (admitted-sound before order admitted.early) (admitted.due ∙ due-of before.block command c.requires.blocks)
    (admitted-held before order command admitted.early admitted.command)
    (admitted-finds before order command c.self.invariant admitted.early admitted.command possible.some) s.1 s.0)
    c.self.invariant

pub returns-clause-done : goal.returns-clause-done
returns-clause-done g c =
    let never = g.M.Medium.NEVER_FAILS in
    let order = c.args.order.now in
    let command = c.args.admitted.now.command in
    let inside = c.self.inside in
    let unit = inside.unit.logged in
    let waiting = inside.unit.waiting.list in
    let new = c.act.new.self in
    let after = state_of inside.targets inside.first inside.page new.waiting.list new.logged.disk new.logged.log in
    subst (λ (t : TargetState). IfOk c.act.result (λ a. IsActed never t order command a after)) c.self.view_is
    (unit-ok c.act.result (λ a n f p. IsActed never (state_of n f p waiting unit.disk unit.log) order command a (state_of n f p new.waiting.list new.logged.disk new.logged.log))
    inside.targets inside.first inside.page c.act.ensures.acted)

pub returns-clause-memory : goal.returns-clause-memory
returns-clause-memory g c =
    let inside = c.self.inside in
    let unit = inside.unit.logged in
    let waiting = inside.unit.waiting.list in
    let new = c.act.new.self in
    let after = state_of inside.targets inside.first inside.page new.waiting.list new.logged.disk new.logged.log in
    subst (λ (t : TargetState). OnErr c.act.result (after ≡ t)) c.self.view_is
    (unit-err c.act.result (λ n f p. state_of n f p new.waiting.list new.logged.disk new.logged.log ≡ state_of n f p waiting unit.disk unit.log) inside.targets inside.first inside.page c.act.ensures.memory)
