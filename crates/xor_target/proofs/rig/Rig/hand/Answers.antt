use Rattle.std.proofs.Common.{ℕ, subst}
use Rattle.xor_target.specs.State.{TargetState}
use Rattle.xor_target.specs.Resumes.{IsResumed}
use Rattle.xor_target.specs.Rigs.{stamp_with}
use Rattle.xor_target.proofs.RigSteps.{got-inside, turn-of, handed-left, may-hand}
use Rattle.xor_target.proofs.rig.Rig.hand.Goals as goal

pub resume-requires-clause-may : goal.resume-requires-clause-may
resume-requires-clause-may g c =
    let target = c.index_mut.result.now in
    let request = c.args.request.now in
    may-hand _ _ _
    (c.requires.pending.alone.waits target (got-inside c.self.inside.targets.items c.args.self.now request.from target c.self.view_is c.requires.pending.alone.within c.index_mut.ensures.value))

pub resume-requires-clause-fits : goal.resume-requires-clause-fits
resume-requires-clause-fits g c =
    let target = c.index_mut.result.now in
    let request = c.args.request.now in
    c.requires.fits target (got-inside c.self.inside.targets.items c.args.self.now request.from target c.self.view_is c.requires.pending.alone.within c.index_mut.ensures.value)

pub returns-clause-handed : goal.returns-clause-handed
returns-clause-handed g c =
    let request = c.args.request.now in
    turn-of request.from (λ (t now : TargetState). IsResumed g.M.Medium.NEVER_FAILS t request.order.owner c.args.back.now (stamp_with request c.args.back.now) c.resume.result now)
    c.self.inside.targets.items c.args.self.now c.index_mut.result.now c.resume.new.self c.self.view_is c.requires.pending.alone.within c.index_mut.ensures.value
    (subst (λ (seen : ℕ). IsResumed g.M.Medium.NEVER_FAILS c.index_mut.result.now request.order.owner c.args.back.now seen c.resume.result c.resume.new.self) c.stamp_with-seen.ensures c.resume.ensures)

pub returns-clause-left : goal.returns-clause-left
returns-clause-left g c =
    let request = c.args.request.now in
    handed-left g.M.Medium.NEVER_FAILS request c.args.back.now c.resume.result c.args.self.now _ c.requires.pending
    (turn-of request.from (λ (t now : TargetState). IsResumed g.M.Medium.NEVER_FAILS t request.order.owner c.args.back.now (stamp_with request c.args.back.now) c.resume.result now)
    c.self.inside.targets.items c.args.self.now c.index_mut.result.now c.resume.new.self c.self.view_is c.requires.pending.alone.within c.index_mut.ensures.value
    (subst (λ (seen : ℕ). IsResumed g.M.Medium.NEVER_FAILS c.index_mut.result.now request.order.owner c.args.back.now seen c.resume.result c.resume.new.self) c.stamp_with-seen.ensures c.resume.ensures))
