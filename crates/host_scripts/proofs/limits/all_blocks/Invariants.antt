use Rattle.std.proofs.Common.{◌≡◌, ◌≤◌, ◌*◌, take}
use Rattle.host_scripts.specs.Limits.{all_blocks}
use Rattle.host_scripts.proofs.limits.all_blocks.Given as goal

abbrev pub invariant-loop-call : goal.invariant-loop-call
invariant-loop-call l = record {
  so_far : l.sum ≡ all_blocks l.geometry (take l.call-index l.calls);
  small : l.sum ≤ 4294967295 * l.call-index;
}
