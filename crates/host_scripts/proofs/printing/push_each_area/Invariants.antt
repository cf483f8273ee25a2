use Rattle.std.proofs.Common.{◌≡◌, ◌++◌, drop, map}
use Rattle.std.specs.List.{flat_map}
use Rattle.text_fields.specs.Spelling.{line}
use Rattle.host_scripts.specs.Scripts.{area_text}
use Rattle.host_scripts.proofs.printing.push_each_area.Given as goal

abbrev pub invariant-loop-area : goal.invariant-loop-area
invariant-loop-area l = l.text ++ flat_map line (map area_text (drop l.area-index l.areas)) ≡ l.initial.text ++ flat_map line (map area_text l.areas)
