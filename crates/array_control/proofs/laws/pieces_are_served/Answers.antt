use Rattle.array_control.proofs.Progress.{piece-begins, acts-go_on, piece-ends, whole-ends, given_up-stays}
use Rattle.array_control.proofs.laws.pieces_are_served.Goals as goal

pub returns : goal.returns
returns c = record { begins = piece-begins; goes_on = acts-go_on; done = piece-ends; whole = whole-ends; given_up = given_up-stays }
