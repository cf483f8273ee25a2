use Rattle.std.proofs.Common.{rules, ◌==◌, not}
use Rattle.std.proofs.lemmas.Fn.{filter_same}
use Rattle.xor_buffers.proofs.list.HeldList.wipe_owner.Goals as goal

pub returns : goal.returns
returns c = rw (← c.self.view_is) (filter_same _ (λ h. not (h.owner == c.args.owner)) _ (λ h b f called. search rules) _ _ c.retain.ensures.filtered)
