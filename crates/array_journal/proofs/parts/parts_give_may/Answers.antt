use Rattle.array_journal.proofs.runs.MayOfParts.{parts-give_may}
use Rattle.array_journal.proofs.parts.parts_give_may.Goals as goal

pub returns : goal.returns
returns c = parts-give_may
