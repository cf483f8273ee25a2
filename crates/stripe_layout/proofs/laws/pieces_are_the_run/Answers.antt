use Rattle.stripe_layout.proofs.PieceLaws.{joined, in-units, longest}
use Rattle.stripe_layout.proofs.laws.pieces_are_the_run.Goals as goal

pub returns : goal.returns
returns c = record { joined = joined; in_units = in-units; longest = longest }
