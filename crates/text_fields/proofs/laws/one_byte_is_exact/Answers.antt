use Rattle.text_fields.proofs.HexLaws.{one-byte-exact}
use Rattle.text_fields.proofs.laws.one_byte_is_exact.Goals as goal

pub returns : goal.returns
returns c = one-byte-exact
