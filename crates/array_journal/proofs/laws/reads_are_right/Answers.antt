use Rattle.array_journal.proofs.reads.ReadsRight.{legal_law}
use Rattle.array_journal.proofs.laws.reads_are_right.Goals as goal

pub returns : goal.returns
returns c = record { legal = legal_law }
