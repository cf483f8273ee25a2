use Rattle.array_journal.proofs.example_runs.WrongBars.{updates-apart}
use Rattle.array_journal.proofs.examples.conflicting_write_barred.Goals as goal

pub returns : goal.returns
returns c = updates-apart
