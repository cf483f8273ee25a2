-- what is left is what the rest of those that wait leave
use Rattle.std.proofs.Common.{◌≡◌, ◌-◌, drop}
use Rattle.xor_target.specs.Waits.{aside_blocks}
use Rattle.xor_target.proofs.waiting.WaitingList.room_left.Given as goal

abbrev pub invariant-loop-waiting : goal.invariant-loop-waiting
invariant-loop-waiting l = l.left - aside_blocks (drop l.waiting-index l.waiting-items) ≡ l.room - aside_blocks l.self.list
