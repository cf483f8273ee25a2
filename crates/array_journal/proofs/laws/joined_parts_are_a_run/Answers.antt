use Rattle.array_journal.proofs.runs.JoinedParts.{joined_parts}
use Rattle.array_journal.proofs.runs.JoinedViews.{numbers-part_views}
use Rattle.array_journal.proofs.laws.joined_parts_are_a_run.Goals as goal

pub returns-clause-joined : goal.returns-clause-joined
returns-clause-joined c = joined_parts

pub returns-clause-numbered : goal.returns-clause-numbered
returns-clause-numbered c = numbers-part_views
