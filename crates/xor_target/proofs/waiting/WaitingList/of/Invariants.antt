-- the first of the owner is among those that are left
use Rattle.std.proofs.Common.{◌≡◌, drop}
use Rattle.xor_target.specs.Waits.{waiting_of}
use Rattle.xor_target.proofs.waiting.WaitingList.of.Given as goal

abbrev pub invariant-loop-waiting : goal.invariant-loop-waiting
invariant-loop-waiting l = waiting_of l.owner l.self.list ≡ waiting_of l.owner (drop l.waiting-index l.waiting-items)
