use Rattle.std.proofs.Common.{ap, sym, ◌∙◌}
use Rattle.stripe_layout.specs.declared.geometry.Geometry.{Geometry}
use Rattle.host_requests.specs.Requests.{request_of}
use Rattle.host_scripts.specs.declared.script.Action.TheVariants as actions
use Rattle.array_control.proofs.ComingToWork.{transfer-sound}
use Rattle.array_control.proofs.Executing.{one-made, raw-only}
use Rattle.array_control.proofs.array.Array.execute.Goals as goal

pub call-call-requires-clause-transfer : goal.call-call-requires-clause-transfer
call-call-requires-clause-transfer g c =
    transfer-sound _ (actions.Raw c.args.cdb.now c.args.bytes.now) _
    (ap (λ (x : Geometry). request_of x (actions.Raw c.args.cdb.now c.args.bytes.now)) (sym c.requires.array.geometry_is) ∙ sym c.in-Blocks.ensures.value)

pub unreachable-requires : goal.unreachable-requires
unreachable-requires g c =
    raw-only c.args.self.now.geometry c.args.cdb.now c.args.bytes.now c.raw_request.result c.in_default.not-Illegal c.in_default.not-Blocks c.raw_request.ensures.value

pub returns-in_ok-pass-in-Illegal-clause-made : goal.returns-in_ok-pass-in-Illegal-clause-made
returns-in_ok-pass-in-Illegal-clause-made g c =
    one-made _ _ _ (request_of _ (actions.Raw c.args.cdb.now c.args.bytes.now)) _ _
    (c.in-Illegal.ensures.value ∙ ap (λ (x : Geometry). request_of x (actions.Raw c.args.cdb.now c.args.bytes.now)) c.requires.array.geometry_is)
    c.in_ok-pass-in-Illegal.ensures.grown
