use Rattle.std.proofs.Common.{[]}
use Rattle.xor_buffers.specs.declared.held.HeldBlocks.{HeldBlocks}
use Rattle.xor_buffers.proofs.OwnerSteps.{owners-more}
use Rattle.xor_buffers.proofs.list.HeldList.owners.Goals as goal

pub loop-done-preserved : goal.loop-done-preserved
loop-done-preserved c =
    let d : HeldBlocks = record { owner = 0; row = 0; bytes = [] } in
    owners-more c.args.self.now c.count-len.result c.loop-done.done d _ _ _ c.count-len.ensures c.loop-done-test.true (c.owner_at-owner.ensures d) c.loop-done.invariant c.in_ok-add.ensures
