use Rattle.stripe_check.proofs.WorkedJournals.{illegal-asked}
use Rattle.stripe_check.proofs.asked_examples.illegal_calls.Goals as goal

pub returns : goal.returns
returns c = illegal-asked
