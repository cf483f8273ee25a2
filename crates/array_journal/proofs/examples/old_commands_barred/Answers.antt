use Rattle.array_journal.proofs.example_runs.TriedPasts.{parity_replaced-runs}
use Rattle.array_journal.proofs.examples.old_commands_barred.Goals as goal

pub returns-clause-run : goal.returns-clause-run
returns-clause-run c = parity_replaced-runs
