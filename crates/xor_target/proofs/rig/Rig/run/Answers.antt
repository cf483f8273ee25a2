use Rattle.std.proofs.Common.{◌<◌, sym, subst}
use Rattle.xor_target.specs.declared.answer.Answer.{Answer}
use Rattle.xor_target.specs.Rigs.{still_asked}
use Rattle.xor_target.proofs.RigFewer.{IsCarrying, begun, carried-on, carried-out, carried-fewer}
use Rattle.xor_target.proofs.RigSteps.{no-request}
use Rattle.xor_target.proofs.rig.Rig.run.Goals as goal

pub requests-init : goal.requests-init
requests-init g c =
    begun g.M.Medium.NEVER_FAILS c.args.self.now c.args.number c.args.order.now c.execute-said.result c.execute-said.new.self c.execute-said.ensures.told c.execute-said.ensures.left

pub carry-said-requires : goal.carry-said-requires
carry-said-requires g c =
    let on = subst (λ (a : Answer). IsCarrying g.M.Medium.NEVER_FAILS c.args.self.now c.args.number c.args.order.now a c.requests.self) c.in-Peer.is c.requests.invariant in
    on.left.0

pub requests-preserved : goal.requests-preserved
requests-preserved g c =
    let never = g.M.Medium.NEVER_FAILS in
    let ts = c.args.self.now in
    let order = c.args.order.now in
    let on = subst (λ (a : Answer). IsCarrying never ts c.args.number order a c.requests.self) c.in-Peer.is c.requests.invariant in
    carried-on never ts c.args.number order c.in-Peer.request c.in-Peer.made c.requests.self c.carry-said.result c.carry-said.new.self on c.carry-said.ensures.carried c.carry-said.ensures.left

pub requests-smaller : goal.requests-smaller
requests-smaller g c =
    let never = g.M.Medium.NEVER_FAILS in
    let on = subst (λ (a : Answer). IsCarrying never c.args.self.now c.args.number c.args.order.now a c.requests.self) c.in-Peer.is c.requests.invariant in
    subst (λ (a : Answer). still_asked c.carry-said.result c.carry-said.new.self < still_asked a c.requests.self) (sym c.in-Peer.is)
    (carried-fewer never c.in-Peer.request c.carry-said.result c.in-Peer.made c.requests.self c.carry-said.new.self on.left.0 c.carry-said.ensures.carried)

pub returns-in_default : goal.returns-in_default
returns-in_default g c =
    let ends = no-request c.requests.said (λ request made is. c.in_default.not-Peer request made is) in
    let out = carried-out g.M.Medium.NEVER_FAILS c.args.self.now c.args.number c.args.order.now c.requests.said c.requests.self c.requests.invariant ends in
    record { answered = out.0; last = ends; idle = out.1 }
