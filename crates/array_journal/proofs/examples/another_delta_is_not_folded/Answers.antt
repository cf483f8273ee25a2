use Rattle.array_journal.proofs.example_runs.WrongBars.{folds-the_taken}
use Rattle.array_journal.proofs.examples.another_delta_is_not_folded.Goals as goal

pub returns : goal.returns
returns c = folds-the_taken
