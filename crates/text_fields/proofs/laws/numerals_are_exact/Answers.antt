use Rattle.text_fields.proofs.NumeralLaws.{numerals-exact}
use Rattle.text_fields.proofs.laws.numerals_are_exact.Goals as goal

pub returns : goal.returns
returns c = numerals-exact
