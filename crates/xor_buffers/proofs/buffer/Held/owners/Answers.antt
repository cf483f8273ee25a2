use Rattle.std.proofs.Common.{[]}
use Rattle.xor_buffers.specs.declared.held.HeldBlocks.{HeldBlocks}
use Rattle.xor_buffers.proofs.OwnerSteps.{owners-more}
use Rattle.xor_buffers.proofs.buffer.Held.owners.Goals as goal

pub loop-back-preserved : goal.loop-back-preserved
loop-back-preserved c =
    let d : HeldBlocks = record { owner = 0; row = 0; bytes = [] } in
    owners-more c.args.self.now.list c.len-len.result c.loop-back.back d _ _ _ c.len-len.ensures c.loop-back-test.true (c.run_at-owner.ensures.owner d) c.loop-back.invariant c.in_ok-add.ensures
