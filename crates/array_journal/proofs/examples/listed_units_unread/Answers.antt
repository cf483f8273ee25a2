use Rattle.array_journal.proofs.example_runs.TriedPasts.{spoilt-runs}
use Rattle.array_journal.proofs.examples.listed_units_unread.Goals as goal

pub returns-clause-run : goal.returns-clause-run
returns-clause-run c = spoilt-runs
