use Rattle.array_journal.proofs.example_runs.TriedPasts.{beside_update-runs}
use Rattle.array_journal.proofs.examples.update_bars_degraded_read.Goals as goal

pub returns-clause-run : goal.returns-clause-run
returns-clause-run c = beside_update-runs
