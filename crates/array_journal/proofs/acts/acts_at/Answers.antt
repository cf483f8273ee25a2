use Rattle.array_journal.proofs.acts.acts_at.Goals as goal

pub returns-in-Puts : goal.returns-in-Puts
returns-in-Puts c = rw c.in-Puts.is (c.puts_at.ensures c.args.mode)

pub returns-in-Diffs : goal.returns-in-Diffs
returns-in-Diffs c = rw c.in-Diffs.is (c.diffs_at.ensures c.args.mode)

pub returns-in-Folds : goal.returns-in-Folds
returns-in-Folds c = rw c.in-Folds.is (c.folds_at.ensures c.args.mode)
