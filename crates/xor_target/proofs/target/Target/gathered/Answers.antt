use Rattle.std.proofs.Common.{◌≡◌, refl, ap, ◌∙◌, subst, sym, ℕ, List, length, IfOk, OnErr}
use Rattle.xor_target.specs.declared.answer.PeerBack.TheVariants as back
use Rattle.xor_target.specs.Acts.{IsFewWhereGone}
use Rattle.xor_target.specs.Resumes.{HasContinued, IsFitting, is_sending, ended_answer}
use Rattle.xor_target.specs.State.{TargetState, state_of, is_waiting}
use Rattle.xor_target.proofs.Handing.{unit-ok, ok-both, unit-err, kept-target}
use Rattle.xor_target.proofs.Continued.{is-gathering, continued-target}
use Rattle.xor_target.proofs.Possible.{ended-sound}
use Rattle.xor_target.proofs.target.Target.gathered.Goals as goal

pub gathered-requires : goal.gathered-requires
gathered-requires g c =
    let inside = c.self.inside in
    let unit = inside.unit.logged in
    let before = state_of inside.targets inside.first inside.page inside.unit.waiting.list unit.disk unit.log in
    let owner = c.args.owner in
    let bytes = c.as_slice.result.now in
    let fits = subst (λ (b : List ℕ). IsFitting before owner (back.Good b c.args.made.now)) (sym c.as_slice.ensures)
    (subst (λ (t : TargetState). IsFitting t owner (back.Good c.args.bytes.now c.args.made.now)) (sym c.self.view_is) c.requires.fits) in
    is-gathering owner (length bytes) unit.disk before c.self.invariant refl refl refl refl
    (ap (λ (t : TargetState). is_waiting t owner) c.self.view_is ∙ c.requires.waits)
    (ap (λ (t : TargetState). is_sending t owner) c.self.view_is ∙ c.requires.gathers) fits

pub invariant_of-self : goal.invariant_of-self
invariant_of-self g c =
    let never = g.M.Medium.NEVER_FAILS in
    let inside = c.self.inside in
    let unit = inside.unit.logged in
    let waiting = inside.unit.waiting.list in
    let owner = c.args.owner in
    let made = c.args.made.now in
    let seen = c.args.stamp in
    let bytes = c.as_slice.result.now in
    let new = c.gathered.new.self in
    let before = state_of inside.targets inside.first inside.page waiting unit.disk unit.log in
    let after = state_of inside.targets inside.first inside.page new.waiting.list new.logged.disk new.logged.log in
    let fits = subst (λ (b : List ℕ). IsFitting before owner (back.Good b made)) (sym c.as_slice.ensures)
    (subst (λ (t : TargetState). IsFitting t owner (back.Good c.args.bytes.now made)) (sym c.self.view_is) c.requires.fits) in
    let continued = unit-ok c.gathered.result
    (λ a n f p. HasContinued never (state_of n f p waiting unit.disk unit.log) owner bytes made seen a (state_of n f p new.waiting.list new.logged.disk new.logged.log))
    inside.targets inside.first inside.page c.gathered.ensures.continued in
    kept-target c.gathered.result before after (λ a. HasContinued never before owner bytes made seen a after × IsFewWhereGone new.logged.log.past a)
    (ok-both c.gathered.result (λ a. HasContinued never before owner bytes made seen a after) (IsFewWhereGone new.logged.log.past) continued c.gathered.ensures.few)
    (unit-err c.gathered.result (λ n f p. state_of n f p new.waiting.list new.logged.disk new.logged.log ≡ state_of n f p waiting unit.disk unit.log)
    inside.targets inside.first inside.page c.gathered.ensures.memory)
    (λ a s. continued-target never before owner bytes made seen a after c.self.invariant
    (ended-sound before owner (ap (λ (t : TargetState). ended_answer t owner) c.self.view_is ∙ c.requires.sound)) fits s.1 s.0)
    c.self.invariant

pub returns-clause-continued : goal.returns-clause-continued
returns-clause-continued g c =
    let never = g.M.Medium.NEVER_FAILS in
    let inside = c.self.inside in
    let unit = inside.unit.logged in
    let waiting = inside.unit.waiting.list in
    let owner = c.args.owner in
    let made = c.args.made.now in
    let seen = c.args.stamp in
    let new = c.gathered.new.self in
    let after = state_of inside.targets inside.first inside.page new.waiting.list new.logged.disk new.logged.log in
    subst (λ (b : List ℕ). IfOk c.gathered.result (λ a. HasContinued never c.args.self.now owner b made seen a after)) c.as_slice.ensures
    (subst (λ (t : TargetState). IfOk c.gathered.result (λ a. HasContinued never t owner c.as_slice.result.now made seen a after)) c.self.view_is
    (unit-ok c.gathered.result
    (λ a n f p. HasContinued never (state_of n f p waiting unit.disk unit.log) owner c.as_slice.result.now made seen a (state_of n f p new.waiting.list new.logged.disk new.logged.log))
    inside.targets inside.first inside.page c.gathered.ensures.continued))

pub returns-clause-memory : goal.returns-clause-memory
returns-clause-memory g c =
    let inside = c.self.inside in
    let unit = inside.unit.logged in
    let waiting = inside.unit.waiting.list in
    let new = c.gathered.new.self in
    let after = state_of inside.targets inside.first inside.page new.waiting.list new.logged.disk new.logged.log in
    subst (λ (t : TargetState). OnErr c.gathered.result (after ≡ t)) c.self.view_is
    (unit-err c.gathered.result (λ n f p. state_of n f p new.waiting.list new.logged.disk new.logged.log ≡ state_of n f p waiting unit.disk unit.log)
    inside.targets inside.first inside.page c.gathered.ensures.memory)
