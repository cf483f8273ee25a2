use Rattle.text_fields.proofs.Cuts.{cuts-exact}
use Rattle.text_fields.proofs.laws.cuts_are_exact.Goals as goal

pub returns : goal.returns
returns c = cuts-exact
