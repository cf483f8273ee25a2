use Rattle.array_journal.proofs.runs.RunLaws.{owners_law, held_apart_law, delta_held_law}
use Rattle.array_journal.proofs.laws.held_blocks_are_of_open_commands.Goals as goal

pub returns-clause-owners : goal.returns-clause-owners
returns-clause-owners c = owners_law

pub returns-clause-apart : goal.returns-clause-apart
returns-clause-apart c = held_apart_law

pub returns-clause-deltas : goal.returns-clause-deltas
returns-clause-deltas c = delta_held_law
