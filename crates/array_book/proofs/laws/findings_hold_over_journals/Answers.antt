use Rattle.array_book.proofs.Findings.{opens-alike, swaps-alike, notes-alike, newest-greatest}
use Rattle.array_book.proofs.laws.findings_hold_over_journals.Goals as goal

pub returns : goal.returns
returns c = record { opens = opens-alike; swaps = swaps-alike; notes = notes-alike; later = newest-greatest }
