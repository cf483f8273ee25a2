use Rattle.array_journal.proofs.example_runs.WrongBars.{one-diff}
use Rattle.array_journal.proofs.examples.second_diff_barred.Goals as goal

pub returns : goal.returns
returns c = one-diff
