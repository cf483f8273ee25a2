use Rattle.array_journal.proofs.runs.PartsOfMay.{may-has_parts}
use Rattle.array_journal.proofs.parts.may_has_parts.Goals as goal

pub returns : goal.returns
returns c = may-has_parts
