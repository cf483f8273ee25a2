use Rattle.array_journal.proofs.runs.RunLaws.{beginnings_law, by_names_law}
use Rattle.array_journal.proofs.laws.runs_are_told_by_names.Goals as goal

pub returns-clause-beginnings : goal.returns-clause-beginnings
returns-clause-beginnings c = beginnings_law

pub returns-clause-by_names : goal.returns-clause-by_names
returns-clause-by_names c = by_names_law
