use Rattle.std.proofs.Common.{arith}
use Rattle.blocks_core.proofs.Lanes.{stored-lane}
use Rattle.blocks_core.proofs.xor.xor_lane.Goals as goal

pub returns : goal.returns
returns c = stored-lane c.args.into.now c.args.from.now c.args.at 32 (omega (arith, c.requires.within)) (omega (arith, c.requires.within, c.requires.same_length))
