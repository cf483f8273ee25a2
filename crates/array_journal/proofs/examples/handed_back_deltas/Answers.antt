use Rattle.array_journal.proofs.example_runs.ReadbackRuns.{handed_back-runs, handed_back-not_held, hands-back_by_mode, folds-the_handed_back, folds-nothing_else, takes-nothing}
use Rattle.array_journal.proofs.examples.handed_back_deltas.Goals as goal

pub returns-clause-run : goal.returns-clause-run
returns-clause-run c = handed_back-runs

pub returns-clause-held : goal.returns-clause-held
returns-clause-held c = handed_back-not_held

pub returns-clause-diff : goal.returns-clause-diff
returns-clause-diff c = hands-back_by_mode

pub returns-clause-fold : goal.returns-clause-fold
returns-clause-fold c = folds-the_handed_back

pub returns-clause-source : goal.returns-clause-source
returns-clause-source c = folds-nothing_else

pub returns-clause-take : goal.returns-clause-take
returns-clause-take c = takes-nothing
