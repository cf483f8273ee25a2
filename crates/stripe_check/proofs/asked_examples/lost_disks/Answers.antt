use Rattle.stripe_check.proofs.WorkedJournals.{given_up-asked, spoilt-asked, gathered-asked, rebuilt-asked}
use Rattle.stripe_check.proofs.asked_examples.lost_disks.Goals as goal

pub returns-clause-given_up : goal.returns-clause-given_up
returns-clause-given_up c = given_up-asked

pub returns-clause-spoilt : goal.returns-clause-spoilt
returns-clause-spoilt c = spoilt-asked

pub returns-clause-gathered : goal.returns-clause-gathered
returns-clause-gathered c = gathered-asked

pub returns-clause-rebuilt : goal.returns-clause-rebuilt
returns-clause-rebuilt c = rebuilt-asked
