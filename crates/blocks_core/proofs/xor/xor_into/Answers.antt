use Rattle.blocks_core.proofs.Lanes.{lanes-then}
use Rattle.blocks_core.proofs.xor.xor_into.Goals as goal

pub returns : goal.returns
returns c =
    lanes-then c.args.into.now c.args.from.now c.xor_lanes-rest.result c.xor_lanes-rest.new.into c.xor_bytes.new.into
    c.xor_lanes-rest.ensures.within c.requires c.xor_lanes-rest.ensures.bytes c.xor_bytes.ensures
