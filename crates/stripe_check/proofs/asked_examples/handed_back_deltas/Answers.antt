use Rattle.stripe_check.proofs.WorkedJournals.{handed_back-asked}
use Rattle.stripe_check.proofs.asked_examples.handed_back_deltas.Goals as goal

pub returns : goal.returns
returns c = handed_back-asked
