use Rattle.std.proofs.Common.{◌≡◌, ◌≤◌, take}
use Rattle.host_scripts.specs.Limits.{passes_of}
use Rattle.host_scripts.proofs.limits.passes.Given as goal

abbrev pub invariant-loop-call : goal.invariant-loop-call
invariant-loop-call l = record {
  so_far : l.passes ≡ passes_of (take l.call-index l.calls);
  small : l.passes ≤ l.call-index;
}
