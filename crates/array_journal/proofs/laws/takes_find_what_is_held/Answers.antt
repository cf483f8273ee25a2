use Rattle.array_journal.proofs.held.FoundRows.{delta-found, gathered-found}
use Rattle.array_journal.proofs.laws.takes_find_what_is_held.Goals as goal

pub returns-clause-delta : goal.returns-clause-delta
returns-clause-delta c = delta-found

pub returns-clause-gathered : goal.returns-clause-gathered
returns-clause-gathered c = gathered-found
