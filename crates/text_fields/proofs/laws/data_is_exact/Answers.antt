use Rattle.text_fields.proofs.HexLaws.{data-exact}
use Rattle.text_fields.proofs.laws.data_is_exact.Goals as goal

pub returns : goal.returns
returns c = data-exact
