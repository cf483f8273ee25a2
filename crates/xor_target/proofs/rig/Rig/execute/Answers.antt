use Rattle.xor_target.specs.State.{TargetState}
use Rattle.xor_target.specs.Answers.{IsAnswered}
use Rattle.xor_target.proofs.RigSteps.{got-inside, turn-of, left-of}
use Rattle.xor_target.proofs.rig.Rig.execute.Goals as goal

pub execute-requires : goal.execute-requires
execute-requires g c =
    let target = c.index_mut.result.now in
    c.requires.idle.none c.args.number target (got-inside c.self.inside.targets.items c.args.self.now c.args.number target c.self.view_is c.requires.number c.index_mut.ensures.value)

pub returns-clause-told : goal.returns-clause-told
returns-clause-told g c =
    turn-of c.args.number (λ (t now : TargetState). IsAnswered g.M.Medium.NEVER_FAILS t c.args.order.now c.execute.result now) c.self.inside.targets.items c.args.self.now c.index_mut.result.now
    c.execute.new.self c.self.view_is c.requires.number c.index_mut.ensures.value c.execute.ensures

pub returns-clause-left : goal.returns-clause-left
returns-clause-left g c =
    left-of g.M.Medium.NEVER_FAILS c.args.number c.args.order.now c.execute.result c.args.self.now _ c.requires.idle
    (turn-of c.args.number (λ (t now : TargetState). IsAnswered g.M.Medium.NEVER_FAILS t c.args.order.now c.execute.result now) c.self.inside.targets.items c.args.self.now c.index_mut.result.now
    c.execute.new.self c.self.view_is c.requires.number c.index_mut.ensures.value c.execute.ensures)
