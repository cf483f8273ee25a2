use Rattle.array_journal.proofs.runs.RunLaws.{lives_law, fresh_law, mended_law, unfitted_law}
use Rattle.array_journal.proofs.laws.lives_come_in_order.Goals as goal

pub returns-clause-counted : goal.returns-clause-counted
returns-clause-counted c = lives_law

pub returns-clause-replaced : goal.returns-clause-replaced
returns-clause-replaced c = fresh_law

pub returns-clause-unfitted : goal.returns-clause-unfitted
returns-clause-unfitted c = unfitted_law

pub returns-clause-mended : goal.returns-clause-mended
returns-clause-mended c = mended_law
