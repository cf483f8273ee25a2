use Rattle.std.proofs.Common.{◌≡◌, ◌+◌, ◌++◌}
use Rattle.stripe_layout.specs.Pieces.{pieces_of}
use Rattle.stripe_layout.proofs.geometry.Geometry.pieces.Given as goal

-- the pieces so far and those of what is left are all pieces
abbrev pub invariant-loop-left : goal.invariant-loop-left
invariant-loop-left l = record {
  whole : l.pieces ++ pieces_of l.self l.max l.first l.left ≡ pieces_of l.self l.max l.lba l.count;
  end : l.first + l.left ≡ l.lba + l.count;
}

abbrev pub decreases-loop-left : goal.decreases-loop-left
decreases-loop-left l = l.left
