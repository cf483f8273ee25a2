use Rattle.array_journal.proofs.runs.RunLaws.{no_act_after_end_law, one_end_law}
use Rattle.array_journal.proofs.laws.nothing_follows_an_end.Goals as goal

pub returns-clause-acts : goal.returns-clause-acts
returns-clause-acts c = no_act_after_end_law

pub returns-clause-ends : goal.returns-clause-ends
returns-clause-ends c = one_end_law
