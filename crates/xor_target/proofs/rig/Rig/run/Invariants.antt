use Rattle.xor_target.specs.Rigs.{still_asked}
use Rattle.xor_target.proofs.RigFewer.{IsCarrying}
use Rattle.xor_target.proofs.rig.Rig.run.Given as goal

abbrev pub invariant-requests : goal.invariant-requests
invariant-requests g l = IsCarrying g.M.Medium.NEVER_FAILS l.fn.self l.number l.order l.said l.self

abbrev pub decreases-requests : goal.decreases-requests
decreases-requests g l = still_asked l.said l.self
