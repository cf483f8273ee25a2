use Rattle.text_fields.proofs.HexLaws.{filled-exact}
use Rattle.text_fields.proofs.laws.filled_is_exact.Goals as goal

pub returns : goal.returns
returns c = filled-exact
