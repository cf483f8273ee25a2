use Rattle.std.proofs.Common.{sym, ◌∙◌}
use Rattle.array_control.proofs.Runnable.{free-looked, not-some}
use Rattle.array_control.proofs.array.Array.is_free.Goals as goal

pub returns-clause-free : goal.returns-clause-free
returns-clause-free g c = λ alone pass is_pass.
    free-looked _ c.args.call.now c.in_ok-ask.ask _ c.look.result c.is_none.result
    (not-some c.args.call.now.doing (sym c.is_some.ensures ∙ c.if-is_some.false)) c.in_ok-ask.ensures c.is_none.ensures
    (c.look.ensures.waits alone pass is_pass)
