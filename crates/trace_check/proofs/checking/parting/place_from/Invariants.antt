-- the first line that begins so is still to come, at this place or behind it
use Rattle.std.proofs.Common.{◌≡◌, ◌≤◌, ◌-◌, length, drop}
use Rattle.trace_check.specs.Inputs.{place_from}
use Rattle.trace_check.proofs.checking.parting.place_from.Given as goal

abbrev pub invariant-loop-place : goal.invariant-loop-place
invariant-loop-place l = record {
  bound : l.place ≤ length l.bytes;
  ahead : place_from l.start l.place l.begins (drop l.place l.bytes) ≡ place_from l.fn.start l.fn.from l.fn.begins (drop l.fn.from l.fn.bytes);
}

abbrev pub decreases-loop-place : goal.decreases-loop-place
decreases-loop-place l = length l.bytes - l.place
