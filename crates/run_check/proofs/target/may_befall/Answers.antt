use Rattle.run_check.proofs.target.may_befall.Goals as goal

pub returns-in-Fresh : goal.returns-in-Fresh
returns-in-Fresh c = λ _. rw c.in-Fresh.is c.may_freshen.ensures
