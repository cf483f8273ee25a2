use Rattle.array_journal.proofs.held.ExactlyHeld.{delta-exactly, gathered-exactly}
use Rattle.array_journal.proofs.laws.held_blocks_are_as_made.Goals as goal

pub returns-clause-delta : goal.returns-clause-delta
returns-clause-delta c = delta-exactly

pub returns-clause-gathered : goal.returns-clause-gathered
returns-clause-gathered c = gathered-exactly
