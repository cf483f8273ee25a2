use Rattle.std.proofs.Common.{sym, subst}
use Rattle.std.specs.Prelude.{IfOk}
use Rattle.xor_cli.specs.declared.words.RunCommand.{RunCommand}
use Rattle.xor_cli.specs.Inputs.{Subject, IsAccepted}
use Rattle.xor_cli.specs.Endings.{IsMade}
use Rattle.xor_cli.proofs.execute.made_from.Goals as goal

pub returns-in-Step-clause-made : goal.returns-in-Step-clause-made
returns-in-Step-clause-made c =
    let Makes : RunCommand → Type 0 = λ run.
    IfOk c.run_script.result (λ made. (subject : Subject run) × IsAccepted run c.args.input.now subject × IsMade run subject made.journal made.text) in
    subst Makes (sym c.in-Step.is) c.run_script.ensures.made

pub returns-in-Target-clause-made : goal.returns-in-Target-clause-made
returns-in-Target-clause-made c =
    let Makes : RunCommand → Type 0 = λ run.
    IfOk c.run_target.result (λ made. (subject : Subject run) × IsAccepted run c.args.input.now subject × IsMade run subject made.journal made.text) in
    subst Makes (sym c.in-Target.is) c.run_target.ensures.made
