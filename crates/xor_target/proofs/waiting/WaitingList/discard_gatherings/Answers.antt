use Rattle.std.proofs.Common.{rules}
use Rattle.std.proofs.lemmas.Fn.{filter_same}
use Rattle.xor_target.specs.Waits.{sends}
use Rattle.xor_target.proofs.waiting.WaitingList.discard_gatherings.Goals as goal

pub returns : goal.returns
returns c = rw (← c.self.view_is) (filter_same _ sends _ (λ w b f called. search rules) _ _ c.retain.ensures.filtered)
