use Rattle.std.proofs.Common.{length}
use Rattle.target_frames.proofs.Cuts.{IsCut}
use Rattle.target_frames.proofs.splitting.cut.Given as goal

abbrev pub invariant-items : goal.invariant-items
invariant-items l = IsCut l.fn.targets l.bytes l.items l.known l.rest

abbrev pub decreases-items : goal.decreases-items
decreases-items l = length l.rest
