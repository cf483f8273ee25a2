use Rattle.std.proofs.Common.{◌∙◌}
use Rattle.std.proofs.lemmas.Result.{IfOk-weaker}
use Rattle.xor_cli.proofs.WordLaws.{command-found, command-again, command-memory}
use Rattle.xor_cli.proofs.words.command_of.Goals as goal

pub returns-clause-found : goal.returns-clause-found
returns-clause-found c = IfOk-weaker c.read_words.result _ _ (λ found read. command-found _ found read) c.read_words.ensures.found

pub returns-clause-only : goal.returns-clause-only
returns-clause-only c = λ command spelt. IfOk-weaker c.read_words.result _ _ (λ found read. read ∙ command-again _ command spelt) c.read_words.ensures.found

pub returns-clause-memory : goal.returns-clause-memory
returns-clause-memory c = command-memory _ c.read_words.result c.read_words.ensures.memory
