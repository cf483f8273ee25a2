use Rattle.text_fields.proofs.Cuts.{words-exact}
use Rattle.text_fields.proofs.laws.words_are_exact.Goals as goal

pub returns : goal.returns
returns c = words-exact
