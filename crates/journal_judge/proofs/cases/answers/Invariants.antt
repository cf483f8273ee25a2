-- Nothing is asked of what is read so far.
use Rattle.journal_judge.proofs.cases.answers.Given as goal

abbrev pub invariant-loop : goal.invariant-loop
invariant-loop l = Unit {0}
