use Rattle.array_journal.proofs.runs.RunLaws.{absent_law, present_law}
use Rattle.array_journal.proofs.laws.absent_units_are_missing_or_gone.Goals as goal

pub returns-clause-exactly : goal.returns-clause-exactly
returns-clause-exactly c = absent_law

pub returns-clause-present : goal.returns-clause-present
returns-clause-present c = present_law
