use Rattle.array_journal.proofs.example_runs.WrongBars.{rewrite-owes_zeros}
use Rattle.array_journal.proofs.examples.rewrite_owes_zeros.Goals as goal

pub returns : goal.returns
returns c = rewrite-owes_zeros
