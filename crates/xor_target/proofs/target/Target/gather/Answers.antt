use Rattle.std.proofs.Common.{◌≡◌, subst, sym, IfOk, OnErr}
use Rattle.xor_target.specs.State.{TargetState, state_of}
use Rattle.xor_target.specs.Answers.{IsGathered}
use Rattle.xor_target.specs.Acts.{IsAdmitted, IsFewWhereGone}
use Rattle.xor_target.proofs.Handing.{unit-ok, ok-both, unit-err, kept-target}
use Rattle.xor_target.proofs.Continued.{gathered-target}
use Rattle.xor_target.proofs.Possible.{admitted-gatherable, admitted-finds, admitted-sound}
use Rattle.xor_target.proofs.target.Target.gather.Goals as goal

pub gather-requires : goal.gather-requires
gather-requires g c =
    let inside = c.self.inside in
    let unit = inside.unit.logged in
    let admitted = subst (λ (t : TargetState). IsAdmitted t c.args.order.now c.args.admitted.now) (sym c.self.view_is) c.requires.admitted in
    admitted-gatherable inside.targets inside.first inside.page inside.unit.waiting.list unit.disk unit.log c.args.order.now c.args.admitted.now admitted c.requires.gathers

pub invariant_of-self : goal.invariant_of-self
invariant_of-self g c =
    let never = g.M.Medium.NEVER_FAILS in
    let order = c.args.order.now in
    let command = c.args.admitted.now.command in
    let inside = c.self.inside in
    let unit = inside.unit.logged in
    let waiting = inside.unit.waiting.list in
    let new = c.gather.new.self in
    let before = state_of inside.targets inside.first inside.page waiting unit.disk unit.log in
    let after = state_of inside.targets inside.first inside.page new.waiting.list new.logged.disk new.logged.log in
    let admitted = subst (λ (t : TargetState). IsAdmitted t order c.args.admitted.now) (sym c.self.view_is) c.requires.admitted in
    let able = admitted-gatherable inside.targets inside.first inside.page waiting unit.disk unit.log order c.args.admitted.now admitted c.requires.gathers in
    let gathered = unit-ok c.gather.result
    (λ a n f p. IsGathered never (state_of n f p waiting unit.disk unit.log) order command a (state_of n f p new.waiting.list new.logged.disk new.logged.log))
    inside.targets inside.first inside.page c.gather.ensures.gathered in
    kept-target c.gather.result before after (λ a. IsGathered never before order command a after × IsFewWhereGone new.logged.log.past a)
    (ok-both c.gather.result (λ a. IsGathered never before order command a after) (IsFewWhereGone new.logged.log.past) gathered c.gather.ensures.few)
    (unit-err c.gather.result (λ n f p. state_of n f p new.waiting.list new.logged.disk new.logged.log ≡ state_of n f p waiting unit.disk unit.log)
    inside.targets inside.first inside.page c.gather.ensures.memory)
    (λ a s. gathered-target never before order command a after c.self.invariant (admitted-sound before order admitted.early) able.gathers able.some able.counted able.within
    able.fits able.sized (admitted-finds before order command c.self.invariant admitted.early admitted.command able.some) s.1 s.0)
    c.self.invariant

pub returns-clause-gathered : goal.returns-clause-gathered
returns-clause-gathered g c =
    let never = g.M.Medium.NEVER_FAILS in
    let order = c.args.order.now in
    let command = c.args.admitted.now.command in
    let inside = c.self.inside in
    let unit = inside.unit.logged in
    let waiting = inside.unit.waiting.list in
    let new = c.gather.new.self in
    let after = state_of inside.targets inside.first inside.page new.waiting.list new.logged.disk new.logged.log in
    subst (λ (t : TargetState). IfOk c.gather.result (λ a. IsGathered never t order command a after)) c.self.view_is
    (unit-ok c.gather.result
    (λ a n f p. IsGathered never (state_of n f p waiting unit.disk unit.log) order command a (state_of n f p new.waiting.list new.logged.disk new.logged.log))
    inside.targets inside.first inside.page c.gather.ensures.gathered)

pub returns-clause-memory : goal.returns-clause-memory
returns-clause-memory g c =
    let inside = c.self.inside in
    let unit = inside.unit.logged in
    let waiting = inside.unit.waiting.list in
    let new = c.gather.new.self in
    let after = state_of inside.targets inside.first inside.page new.waiting.list new.logged.disk new.logged.log in
    subst (λ (t : TargetState). OnErr c.gather.result (after ≡ t)) c.self.view_is
    (unit-err c.gather.result (λ n f p. state_of n f p new.waiting.list new.logged.disk new.logged.log ≡ state_of n f p waiting unit.disk unit.log)
    inside.targets inside.first inside.page c.gather.ensures.memory)
