use Rattle.array_journal.proofs.runs.RunLaws.{alone_law, undisturbed_law}
use Rattle.array_journal.proofs.laws.exclusive_commands_are_alone.Goals as goal

pub returns-clause-alone : goal.returns-clause-alone
returns-clause-alone c = alone_law

pub returns-clause-undisturbed : goal.returns-clause-undisturbed
returns-clause-undisturbed c = undisturbed_law
