use Rattle.std.proofs.Common.{subst, not, ◌==◌, List, refl, ap, sym, ◌∙◌}
use Rattle.array_journal.specs.Owners.{discarded_at}
use Rattle.xor_target.specs.declared.answer.Answer.TheVariants.{Check}
use Rattle.xor_target.specs.Answers.{communication_failure}
use Rattle.xor_target.specs.Resumes.{Refused, no_longer}
use Rattle.xor_target.specs.declared.waiting.Waiting.{Waiting}
use Rattle.xor_target.specs.Gathers.{IsUnderWayIf}
use Rattle.xor_target.specs.State.{TargetState, IsTarget, state_of}
use Rattle.xor_target.specs.Waits.{waiting_of, without_owner}
use Rattle.xor_target.proofs.KeptStates.{waiting-target}
use Rattle.xor_target.proofs.AsideStates.{aside-left}
use Rattle.xor_target.proofs.WaitLists.{all-filtered}
use Rattle.xor_target.proofs.target.Target.refused.Goals as goal

pub returns : goal.returns
returns g c = λ seen.
    let inside = c.self.inside in
    let owner = c.args.owner in
    let waiting = c.unwrap-made.result in
    Refused waiting c.requires.goes_on (ap (λ (t : TargetState). waiting_of owner t.waiting) (sym c.self.view_is) ∙ sym c.end.ensures.first ∙ c.unwrap-made.ensures) refl
    (ap (λ s. Check s waiting.made c.discarded_at-loss.result) c.communication_failure.ensures
    ∙ ap (λ l. Check communication_failure waiting.made l) (c.discarded_at-loss.ensures ∙ ap (λ (t : TargetState). discarded_at t.number owner t.past) c.self.view_is))
    (ap (λ ws. state_of inside.targets inside.first inside.page ws inside.unit.logged.disk inside.unit.logged.log) c.end.ensures.rest
    ∙ ap (λ (t : TargetState). no_longer t owner) c.self.view_is)

pub invariant_of-self : goal.invariant_of-self
invariant_of-self g c =
    let inside = c.self.inside in
    let unit = inside.unit.logged in
    let waiting = inside.unit.waiting.list in
    let owner = c.args.owner in
    let t = state_of inside.targets inside.first inside.page waiting unit.disk unit.log in
    subst (λ (ws : List Waiting). IsTarget (state_of inside.targets inside.first inside.page ws unit.disk unit.log)) (sym c.end.ensures.rest)
    (waiting-target t (without_owner owner waiting) c.self.invariant
    (aside-left t.block t.buffer t.held (λ (w : Waiting). not (w.owner == owner)) waiting c.self.invariant.aside)
    (all-filtered (λ (w : Waiting). IsUnderWayIf t.block t.rows w.owner w.gathering) (λ (w : Waiting). not (w.owner == owner)) waiting c.self.invariant.gathers))
