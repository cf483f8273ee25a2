use Rattle.text_fields.proofs.NumeralLaws.{numbers-exact}
use Rattle.text_fields.proofs.laws.numbers_are_exact.Goals as goal

pub returns : goal.returns
returns c = numbers-exact
