use Rattle.std.proofs.Common.{sym, ap, ◌∙◌}
use Rattle.stripe_layout.specs.declared.geometry.Geometry.{Geometry}
use Rattle.host_requests.specs.declared.requests.Transfer.{Transfer}
use Rattle.host_requests.specs.Forms.{transfer_as}
use Rattle.host_requests.specs.Requests.{Moves, request_of}
use Rattle.array_control.proofs.ComingToWork.{transfer-sound, newly-taken, newly-empty}
use Rattle.array_control.proofs.array.Array.first_work.Goals as goal

pub call-call-requires-clause-transfer : goal.call-call-requires-clause-transfer
call-call-requires-clause-transfer g c =
    transfer-sound (g.B.Bus.setting c.args.self.now.bus) c.args.next.action.now _
    (sym (c.in-Blocks.ensures.value ∙ ap (λ (geometry : Geometry). request_of geometry c.args.next.action.now) c.requires.array.geometry_is))

pub returns-then-is_done : goal.returns-then-is_done
returns-then-is_done g c =
    newly-empty (g.B.Bus.setting c.args.self.now.bus) (c.args.next.number, c.args.next.action.now) c.call-call.result
    (sym (ap (λ (t : Transfer). Moves (transfer_as t)) c.call-call.ensures.same.1 ∙ c.in-Blocks.ensures.value
    ∙ ap (λ (geometry : Geometry). request_of geometry c.args.next.action.now) c.requires.array.geometry_is))
    c.call-call.ensures.starts
    (sym c.is_done.ensures ∙ c.if-is_done.true)

pub returns-else-is_done : goal.returns-else-is_done
returns-else-is_done g c =
    newly-taken (g.B.Bus.setting c.args.self.now.bus) (c.args.next.number, c.args.next.action.now) c.call-call.result
    (sym (ap (λ (t : Transfer). Moves (transfer_as t)) c.call-call.ensures.same.1 ∙ c.in-Blocks.ensures.value
    ∙ ap (λ (geometry : Geometry). request_of geometry c.args.next.action.now) c.requires.array.geometry_is))
    c.call-call.ensures.starts
    c.call-call.ensures.same.0
    (sym c.is_done.ensures ∙ c.if-is_done.false)
