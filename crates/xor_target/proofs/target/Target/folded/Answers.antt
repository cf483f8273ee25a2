use Rattle.std.proofs.Common.{subst, not, ◌==◌, ◌≡◌, refl, ap, sym, ◌∙◌, List, [], Some}
use Rattle.array_journal.specs.declared.at.At.{At}
use Rattle.xor_target.specs.declared.answer.Answer.TheVariants.{Good}
use Rattle.xor_target.specs.Resumes.{Folded, WantsMemory, no_longer}
use Rattle.xor_target.specs.declared.waiting.Waiting.{Waiting}
use Rattle.xor_target.specs.Gathers.{IsUnderWayIf}
use Rattle.xor_target.specs.State.{TargetState, IsTarget, state_of}
use Rattle.xor_target.specs.Waits.{waiting_of, without_owner}
use Rattle.xor_target.proofs.Resuming.{sending-goes, sending-waits, sends-nothing}
use Rattle.xor_target.proofs.KeptStates.{waiting-target}
use Rattle.xor_target.proofs.AsideStates.{aside-left}
use Rattle.xor_target.proofs.WaitLists.{all-filtered}
use Rattle.xor_target.proofs.target.Target.folded.Goals as goal

pub returns-in_default : goal.returns-in_default
returns-in_default g c = λ bytes seen.
    let t = c.args.self.now in
    let owner = c.args.owner in
    WantsMemory bytes c.args.made.now (sending-goes t owner c.requires) (sending-waits t.waiting owner (waiting_of owner t.waiting) refl c.requires) refl refl refl

pub returns : goal.returns
returns g c = λ bytes seen.
    let inside = c.self.inside in
    let t = c.args.self.now in
    let owner = c.args.owner in
    let waiting = c.unwrap-waiting.result.now in
    let found = rw c.unwrap-waiting.ensures at c.of.ensures in
    let here : waiting_of owner t.waiting ≡ Some waiting = ap (λ (t : TargetState). waiting_of owner t.waiting) (sym c.self.view_is) ∙ found in
    Folded waiting bytes c.args.made.now here (sends-nothing waiting (waiting_of owner t.waiting) here c.requires) refl
    (ap (λ b. Good b c.in-Ok.made) c.new.ensures ∙ ap (λ (names : List At). Good [] names) c.in-Ok.ensures)
    (ap (λ ws. state_of inside.targets inside.first inside.page ws inside.unit.logged.disk inside.unit.logged.log) c.end.ensures.rest
    ∙ ap (λ (t : TargetState). no_longer t owner) c.self.view_is)

pub invariant_of-self : goal.invariant_of-self
invariant_of-self g c =
    let inside = c.self.inside in
    let unit = inside.unit.logged in
    let waiting = inside.unit.waiting.list in
    let owner = c.args.owner in
    let t = state_of inside.targets inside.first inside.page waiting unit.disk unit.log in
    subst (λ (ws : List Waiting). IsTarget (state_of inside.targets inside.first inside.page ws unit.disk unit.log)) (sym c.end.ensures.rest)
    (waiting-target t (without_owner owner waiting) c.self.invariant
    (aside-left t.block t.buffer t.held (λ (w : Waiting). not (w.owner == owner)) waiting c.self.invariant.aside)
    (all-filtered (λ (w : Waiting). IsUnderWayIf t.block t.rows w.owner w.gathering) (λ (w : Waiting). not (w.owner == owner)) waiting c.self.invariant.gathers))
