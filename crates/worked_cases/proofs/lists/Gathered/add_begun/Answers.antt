use Rattle.worked_cases.proofs.lists.Gathered.add_begun.Goals as goal

pub returns-in-Some : goal.returns-in-Some
returns-in-Some c = λ list line lines. c.add.ensures list (record { named = (_, line); lines = lines })
