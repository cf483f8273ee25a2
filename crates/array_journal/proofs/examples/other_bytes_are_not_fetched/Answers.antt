use Rattle.array_journal.proofs.example_runs.WrongBars.{fetches-what_stands}
use Rattle.array_journal.proofs.examples.other_bytes_are_not_fetched.Goals as goal

pub returns : goal.returns
returns c = fetches-what_stands
