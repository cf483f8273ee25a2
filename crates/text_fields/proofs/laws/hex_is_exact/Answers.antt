use Rattle.text_fields.proofs.HexLaws.{hex-exact}
use Rattle.text_fields.proofs.laws.hex_is_exact.Goals as goal

pub returns : goal.returns
returns c = hex-exact
