use Rattle.array_journal.proofs.runs.OwnLaws.{own_entries-stand}
use Rattle.array_journal.proofs.parts.own_entries_stand.Goals as goal

pub returns : goal.returns
returns c = own_entries-stand
