use Rattle.std.proofs.Common.{rules, ◌==◌, ◌||◌, not}
use Rattle.std.proofs.lemmas.Fn.{filter_same}
use Rattle.xor_target.specs.declared.waiting.Waiting.{Waiting}
use Rattle.xor_target.specs.Waits.{sends}
use Rattle.xor_target.proofs.waiting.WaitingList.discard_gathering.Goals as goal

pub returns : goal.returns
returns c =
    rw (← c.self.view_is)
    (filter_same _ (λ (w : Waiting). not (w.owner == c.args.owner) || sends w) _ (λ w b f called. search rules) _ _ c.retain.ensures.filtered)
