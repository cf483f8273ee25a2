use Rattle.array_journal.proofs.example_runs.WrongBars.{shut-bars_the_fold}
use Rattle.array_journal.proofs.examples.fold_after_a_shut_barred.Goals as goal

pub returns : goal.returns
returns c = shut-bars_the_fold
