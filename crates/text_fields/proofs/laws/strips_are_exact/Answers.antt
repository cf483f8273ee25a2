use Rattle.text_fields.proofs.Cuts.{strips-exact}
use Rattle.text_fields.proofs.laws.strips_are_exact.Goals as goal

pub returns : goal.returns
returns c = strips-exact
