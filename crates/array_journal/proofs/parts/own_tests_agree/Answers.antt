use Rattle.array_journal.proofs.runs.OwnLaws.{own_tests-agree}
use Rattle.array_journal.proofs.parts.own_tests_agree.Goals as goal

pub returns : goal.returns
returns c = own_tests-agree
