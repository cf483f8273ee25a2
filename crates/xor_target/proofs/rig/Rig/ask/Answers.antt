use Rattle.xor_target.specs.State.{TargetState}
use Rattle.xor_target.specs.Answers.{IsAnswered}
use Rattle.xor_target.proofs.RigSteps.{got-inside, turn-of, asked-last, asked-pending, asked-fits}
use Rattle.xor_target.proofs.rig.Rig.ask.Goals as goal

pub execute-requires : goal.execute-requires
execute-requires g c =
    let target = c.index_mut.result.now in
    let r = c.requires in
    r.pending.alone.others c.args.request.now.to target (got-inside c.self.inside.targets.items c.args.self.now c.args.request.now.to target c.self.view_is r.to c.index_mut.ensures.value) r.apart

pub returns-clause-asked : goal.returns-clause-asked
returns-clause-asked g c =
    let request = c.args.request.now in
    turn-of request.to (λ (t now : TargetState). IsAnswered g.M.Medium.NEVER_FAILS t request.order c.execute.result now) c.self.inside.targets.items c.args.self.now c.index_mut.result.now
    c.execute.new.self c.self.view_is c.requires.to c.index_mut.ensures.value c.execute.ensures

pub returns-clause-last : goal.returns-clause-last
returns-clause-last g c =
    let request = c.args.request.now in
    asked-last g.M.Medium.NEVER_FAILS request c.execute.result c.args.self.now _ c.requires
    (turn-of request.to (λ (t now : TargetState). IsAnswered g.M.Medium.NEVER_FAILS t request.order c.execute.result now) c.self.inside.targets.items c.args.self.now c.index_mut.result.now
    c.execute.new.self c.self.view_is c.requires.to c.index_mut.ensures.value c.execute.ensures)

pub returns-clause-pending : goal.returns-clause-pending
returns-clause-pending g c =
    let request = c.args.request.now in
    asked-pending g.M.Medium.NEVER_FAILS request c.execute.result c.args.self.now _ c.requires
    (turn-of request.to (λ (t now : TargetState). IsAnswered g.M.Medium.NEVER_FAILS t request.order c.execute.result now) c.self.inside.targets.items c.args.self.now c.index_mut.result.now
    c.execute.new.self c.self.view_is c.requires.to c.index_mut.ensures.value c.execute.ensures)

pub returns-clause-fits : goal.returns-clause-fits
returns-clause-fits g c =
    let request = c.args.request.now in
    asked-fits g.M.Medium.NEVER_FAILS request c.execute.result c.args.self.now _ c.requires
    (turn-of request.to (λ (t now : TargetState). IsAnswered g.M.Medium.NEVER_FAILS t request.order c.execute.result now) c.self.inside.targets.items c.args.self.now c.index_mut.result.now
    c.execute.new.self c.self.view_is c.requires.to c.index_mut.ensures.value c.execute.ensures)
