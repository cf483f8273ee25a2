use Rattle.array_journal.proofs.windows.WindowStart.{window-reads_stood}
use Rattle.array_journal.proofs.laws.windows_read_what_stood.Goals as goal

pub returns : goal.returns
returns c = record { reads = window-reads_stood }
