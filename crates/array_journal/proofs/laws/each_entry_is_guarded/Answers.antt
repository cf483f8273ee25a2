use Rattle.array_journal.proofs.runs.GuardedRuns.{guarded_law}
use Rattle.array_journal.proofs.laws.each_entry_is_guarded.Goals as goal

pub returns : goal.returns
returns c = record { guarded = guarded_law }
