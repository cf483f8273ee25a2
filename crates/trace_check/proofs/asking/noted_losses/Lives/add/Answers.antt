use Rattle.std.proofs.Common.{◌∙◌}
use Rattle.trace_check.proofs.LossesNoted.{life-put}
use Rattle.trace_check.proofs.asking.noted_losses.Lives.add.Goals as goal

pub returns-in_ok-insert : goal.returns-in_ok-insert
returns-in_ok-insert c = λ target other.
    rw c.in-Some.is (c.in_ok-insert.ensures.updates.0 (target, other) ∙ life-put target other c.in-Some.life _)
