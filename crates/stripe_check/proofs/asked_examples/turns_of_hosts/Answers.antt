use Rattle.stripe_check.proofs.WorkedJournals.{either_host-first, out_of_turn-unasked}
use Rattle.stripe_check.proofs.asked_examples.turns_of_hosts.Goals as goal

pub returns-clause-either_first : goal.returns-clause-either_first
returns-clause-either_first c = either_host-first

pub returns-clause-out_of_turn : goal.returns-clause-out_of_turn
returns-clause-out_of_turn c = out_of_turn-unasked
