use Rattle.array_journal.proofs.owed.KeptRuns.{conserved_law}
use Rattle.array_journal.proofs.laws.nothing_is_lost.Goals as goal

pub returns : goal.returns
returns c = record { conserved = conserved_law }
