use Rattle.array_journal.proofs.runs.CallLaws.{new-to_both, new-calls_have_nothing}
use Rattle.array_journal.proofs.parts.new_calls.Goals as goal

pub returns-clause-both : goal.returns-clause-both
returns-clause-both c = new-to_both

pub returns-clause-nothing : goal.returns-clause-nothing
returns-clause-nothing c = new-calls_have_nothing
