use Rattle.array_journal.proofs.example_runs.TriedLosses.{loss-meets_a_read}
use Rattle.array_journal.proofs.examples.loss_meets_a_read.Goals as goal

pub returns : goal.returns
returns c = loss-meets_a_read
