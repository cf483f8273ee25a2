use Rattle.std.proofs.Common.{◌∙◌, sym, ◌+◌, ◌≤◌, length, arith}
use Rattle.blocks_core.proofs.Lanes.{lanes-step}
use Rattle.blocks_core.proofs.XorLaws.{xor-nil_r}
use Rattle.blocks_core.proofs.xor.xor_lanes.Goals as goal

pub loop-into-init : goal.loop-into-init
loop-into-init c = record { within = omega arith; bytes = sym (xor-nil_r c.args.into.now) }

pub loop-into-preserved : goal.loop-into-preserved
loop-into-preserved c =
    let room : c.loop-into.at + 32 ≤ length c.args.into.now = omega (arith, c.loop-into-test.true, c.loop-into.auto.into, c.loop-into.invariant.within) in
    record {
      within = omega (arith, c.xor_lane.auto.into, c.loop-into.auto.into, c.loop-into-test.true, c.loop-into.invariant.within);
      bytes = c.xor_lane.ensures ∙ lanes-step _ _ _ c.loop-into.at 32 c.loop-into.invariant.bytes room c.requires;
    }
