use Rattle.array_journal.proofs.example_runs.TriedWrites.{write-and_read}
use Rattle.array_journal.proofs.examples.write_and_read.Goals as goal

pub returns : goal.returns
returns c = write-and_read
