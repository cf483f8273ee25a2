use Rattle.array_journal.proofs.example_runs.TriedBars.{unfolded-stays_open}
use Rattle.array_journal.proofs.examples.unfolded_stays_open.Goals as goal

pub returns : goal.returns
returns c = unfolded-stays_open
