use Rattle.std.proofs.Common.{◌≡◌, ◌+◌, ◌-◌, ◌≤◌, length}
use Rattle.std.specs.List.{AllByRecursion}
use Rattle.stripe_layout.specs.Layout.{IsArea}
use Rattle.host_scripts.specs.Reading.{areas_at}
use Rattle.host_scripts.proofs.AreaLoop.{with_areas}
use Rattle.host_scripts.proofs.shape.area_lines.Given as goal

abbrev pub invariant-loop-areas : goal.invariant-loop-areas
invariant-loop-areas l = record {
  so_far : with_areas l.areas (areas_at (l.count - length l.areas) (5 + length l.areas) l.rest) ≡ areas_at l.count 5 l.bytes;
  range : AllByRecursion IsArea l.areas;
  some : 1 ≤ length l.areas;
  few : length l.areas ≤ l.count;
  shorter : length l.rest + length l.areas ≤ length l.bytes;
}

abbrev pub decreases-loop-areas : goal.decreases-loop-areas
decreases-loop-areas l = l.count - length l.areas
