use Rattle.std.proofs.Common.{◌≡◌, map, take}
use Rattle.stripe_layout.specs.PieceNumbers.{area_pieces}
use Rattle.stripe_layout.proofs.numbering.areas_in_pieces.Given as goal

abbrev pub invariant-loop-area : goal.invariant-loop-area
invariant-loop-area l = l.counted ≡ map (area_pieces l.max) (take l.area-index l.areas)
