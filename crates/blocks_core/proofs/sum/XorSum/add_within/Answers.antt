use Rattle.std.proofs.Common.{◌∙◌}
use Rattle.blocks_core.proofs.BlockLists.{put-front}
use Rattle.blocks_core.proofs.sum.XorSum.add_within.Goals as goal

pub returns : goal.returns
returns c = c.add_at.ensures ∙ put-front c.args.self.now c.args.bytes.now c.requires
