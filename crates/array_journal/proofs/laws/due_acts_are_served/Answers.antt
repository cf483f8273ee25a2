use Rattle.array_journal.proofs.held.ServedActs.{no-other_answer}
use Rattle.array_journal.proofs.laws.due_acts_are_served.Goals as goal

pub returns : goal.returns
returns c = record { served = no-other_answer }
