use Rattle.stripe_check.proofs.WorkedJournals.{unnoted-unasked, loss-allowed, stranger-unasked}
use Rattle.stripe_check.proofs.asked_examples.losses_and_strangers.Goals as goal

pub returns-clause-unnoted : goal.returns-clause-unnoted
returns-clause-unnoted c = unnoted-unasked

pub returns-clause-loss : goal.returns-clause-loss
returns-clause-loss c = loss-allowed

pub returns-clause-stranger : goal.returns-clause-stranger
returns-clause-stranger c = stranger-unasked
