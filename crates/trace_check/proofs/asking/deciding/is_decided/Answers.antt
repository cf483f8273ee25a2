use Rattle.trace_check.proofs.AskedOfSteps.{begun-as}
use Rattle.trace_check.proofs.asking.deciding.is_decided.Goals as goal

pub returns-in-Refuse : goal.returns-in-Refuse
returns-in-Refuse c = rw c.in-Refuse.is (begun-as c.refuses.result _ _ _ c.begin_of-in-Refuse.ensures (c.refuses.ensures c.in-Refuse.call c.in-Refuse.piece))

pub returns-in-Swap : goal.returns-in-Swap
returns-in-Swap c = rw c.in-Swap.is (begun-as c.swaps.result _ _ _ c.begin_of-in-Swap.ensures (c.swaps.ensures c.in-Swap.call 0))
