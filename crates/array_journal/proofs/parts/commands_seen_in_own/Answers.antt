use Rattle.array_journal.proofs.runs.OwnLaws.{commands-seen_in_own}
use Rattle.array_journal.proofs.parts.commands_seen_in_own.Goals as goal

pub returns : goal.returns
returns c = commands-seen_in_own
