use Rattle.std.proofs.Common.{◌≡◌, ◌≤◌, ◌-◌, length, take}
use Rattle.blocks_core.specs.Xor.{xor}
use Rattle.blocks_core.proofs.xor.xor_lanes.Given as goal

abbrev pub invariant-loop-into : goal.invariant-loop-into
invariant-loop-into l =
    record {
      within : l.at ≤ length l.into;
      bytes : l.into ≡ xor l.initial.into (take l.at l.from);
    }

abbrev pub decreases-loop-into : goal.decreases-loop-into
decreases-loop-into l = length l.into - l.at
