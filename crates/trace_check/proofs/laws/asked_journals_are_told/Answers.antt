use Rattle.trace_check.proofs.ToldJournals.{told-journal}
use Rattle.trace_check.proofs.laws.asked_journals_are_told.Goals as goal

pub returns : goal.returns
returns c = record { told = told-journal }
