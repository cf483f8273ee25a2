use Rattle.std.proofs.Common.{sym}
use Rattle.std.proofs.lemmas.Result.{IfOk-weaker}
use Rattle.array_control.proofs.Runnable.{goes-runnable, begins-transfer, begins-more, begins-runnable, work-there}
use Rattle.array_control.proofs.array.Array.runnable.Goals as goal

pub returns-in-Some-clause-runs : goal.returns-in-Some-clause-runs
returns-in-Some-clause-runs g c =
    IfOk-weaker c.is_free.result _ _
    (λ free told alone pass is_pass.
    goes-runnable (g.B.Bus.setting c.args.self.now.bus) c.args.run.now c.in-Some.call.now (sym c.in-Some.ensures) c.requires.stands.0 _ free c.requires.stands.1
    (told alone pass is_pass))
    c.is_free.ensures.free

pub is_free-requires-in-Some-Moves-clause-transfer : goal.is_free-requires-in-Some-Moves-clause-transfer
is_free-requires-in-Some-Moves-clause-transfer g c =
    begins-transfer (g.B.Bus.setting c.args.self.now.bus) c.args.run.now (sym c.in_default.ensures) c.in-Some-Moves.call
    (work-there (g.B.Bus.setting c.args.self.now.bus) c.args.run.now c.rest-from.result.0.now c.host.result c.rest-from.result.1
    c.in-Some-Moves.field-0 _ c.host.ensures c.rest-from.ensures.left c.in-Some-Moves.field-0-is c.in-Some-Moves.ensures)
    c.requires.stands.0 c.requires.stands.1

pub is_free-requires-in-Some-Moves-clause-more : goal.is_free-requires-in-Some-Moves-clause-more
is_free-requires-in-Some-Moves-clause-more g c =
    begins-more (g.B.Bus.setting c.args.self.now.bus) c.args.run.now (sym c.in_default.ensures) c.in-Some-Moves.call
    (work-there (g.B.Bus.setting c.args.self.now.bus) c.args.run.now c.rest-from.result.0.now c.host.result c.rest-from.result.1
    c.in-Some-Moves.field-0 _ c.host.ensures c.rest-from.ensures.left c.in-Some-Moves.field-0-is c.in-Some-Moves.ensures)
    c.requires.stands.0 c.requires.stands.1

pub returns-in-Some-Moves-clause-runs : goal.returns-in-Some-Moves-clause-runs
returns-in-Some-Moves-clause-runs g c =
    IfOk-weaker c.is_free-in-Some-Moves.result _ _
    (λ free told alone pass is_pass.
    begins-runnable (g.B.Bus.setting c.args.self.now.bus) c.args.run.now (sym c.in_default.ensures) c.in-Some-Moves.call
    (work-there (g.B.Bus.setting c.args.self.now.bus) c.args.run.now c.rest-from.result.0.now c.host.result c.rest-from.result.1
    c.in-Some-Moves.field-0 _ c.host.ensures c.rest-from.ensures.left c.in-Some-Moves.field-0-is c.in-Some-Moves.ensures)
    c.requires.stands.0 c.requires.stands.1 _ free (told alone pass is_pass))
    c.is_free-in-Some-Moves.ensures.free
