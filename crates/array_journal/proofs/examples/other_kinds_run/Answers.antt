use Rattle.array_journal.proofs.example_runs.ExampleRuns.{put_alone-runs, delta_wiped-runs, rebuilt-runs, gathered-runs, refused-runs}
use Rattle.array_journal.proofs.examples.other_kinds_run.Goals as goal

pub returns-clause-put : goal.returns-clause-put
returns-clause-put c = put_alone-runs

pub returns-clause-wiped : goal.returns-clause-wiped
returns-clause-wiped c = delta_wiped-runs

pub returns-clause-rebuilt : goal.returns-clause-rebuilt
returns-clause-rebuilt c = rebuilt-runs

pub returns-clause-gathered : goal.returns-clause-gathered
returns-clause-gathered c = gathered-runs

pub returns-clause-refused : goal.returns-clause-refused
returns-clause-refused c = refused-runs
