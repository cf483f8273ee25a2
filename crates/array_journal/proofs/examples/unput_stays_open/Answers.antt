use Rattle.array_journal.proofs.example_runs.TriedBars.{unput-stays_open}
use Rattle.array_journal.proofs.example_runs.TriedPasts.{rebuilding-runs}
use Rattle.array_journal.proofs.examples.unput_stays_open.Goals as goal

pub returns-clause-barred : goal.returns-clause-barred
returns-clause-barred c = unput-stays_open

pub returns-clause-run : goal.returns-clause-run
returns-clause-run c = rebuilding-runs
