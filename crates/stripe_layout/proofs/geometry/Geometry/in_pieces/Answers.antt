use Rattle.stripe_layout.proofs.PieceNumbers.{pieces-array}
use Rattle.stripe_layout.proofs.geometry.Geometry.in_pieces.Goals as goal

pub returns-clause-array : goal.returns-clause-array
returns-clause-array c = rw (c.areas_in_pieces.ensures, c.as_slice.ensures) (pieces-array c.args.self.now c.args.max c.requires.array c.requires.some)
