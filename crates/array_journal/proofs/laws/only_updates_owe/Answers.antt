use Rattle.array_journal.proofs.windows.WindowStart.{updates-owe}
use Rattle.array_journal.proofs.laws.only_updates_owe.Goals as goal

pub returns : goal.returns
returns c = record { owes = updates-owe }
