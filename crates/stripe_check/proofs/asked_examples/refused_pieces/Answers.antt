use Rattle.stripe_check.proofs.WorkedJournals.{refused-asked, other_reason-unasked}
use Rattle.stripe_check.proofs.asked_examples.refused_pieces.Goals as goal

pub returns-clause-asked : goal.returns-clause-asked
returns-clause-asked c = refused-asked

pub returns-clause-other_reason : goal.returns-clause-other_reason
returns-clause-other_reason c = other_reason-unasked
