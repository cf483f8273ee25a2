-- Those calls that were come to so far were of no blocks.
use Rattle.std.proofs.Common.{length}
use Rattle.array_control.specs.HostCalls.{left_of}
use Rattle.array_control.proofs.ComingToWork.{HasPassed}
use Rattle.array_control.proofs.array.Array.come_to_work.Given as goal

abbrev pub invariant-loop-next : goal.invariant-loop-next
invariant-loop-next g l = HasPassed (g.B.Bus.setting l.self.bus) l.fn.run l.run

abbrev pub decreases-loop-next : goal.decreases-loop-next
decreases-loop-next g l = length (left_of l.run)
