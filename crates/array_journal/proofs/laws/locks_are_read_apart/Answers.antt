use Rattle.array_journal.proofs.runs.RunLaws.{target_lane_law, book_lane_law, named_lane_law}
use Rattle.array_journal.proofs.laws.locks_are_read_apart.Goals as goal

pub returns-clause-target : goal.returns-clause-target
returns-clause-target c = target_lane_law

pub returns-clause-book : goal.returns-clause-book
returns-clause-book c = book_lane_law

pub returns-clause-named : goal.returns-clause-named
returns-clause-named c = named_lane_law
