use Rattle.stripe_check.proofs.WorkedJournals.{write_and_read-asked, unclosed-unasked, other_block-unasked, other_order-unasked, unserved-unasked}
use Rattle.stripe_check.proofs.asked_examples.write_and_read.Goals as goal

pub returns-clause-asked : goal.returns-clause-asked
returns-clause-asked c = write_and_read-asked

pub returns-clause-unclosed : goal.returns-clause-unclosed
returns-clause-unclosed c = unclosed-unasked

pub returns-clause-other_block : goal.returns-clause-other_block
returns-clause-other_block c = other_block-unasked

pub returns-clause-other_order : goal.returns-clause-other_order
returns-clause-other_order c = other_order-unasked

pub returns-clause-unserved : goal.returns-clause-unserved
returns-clause-unserved c = unserved-unasked
