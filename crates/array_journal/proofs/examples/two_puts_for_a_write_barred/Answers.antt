use Rattle.array_journal.proofs.example_runs.WrongBars.{updates-put_nothing, data_alone-wants_parity_lost}
use Rattle.array_journal.proofs.examples.two_puts_for_a_write_barred.Goals as goal

pub returns-clause-update : goal.returns-clause-update
returns-clause-update c = updates-put_nothing

pub returns-clause-alone : goal.returns-clause-alone
returns-clause-alone c = data_alone-wants_parity_lost
