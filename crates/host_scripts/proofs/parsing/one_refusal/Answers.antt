use Rattle.host_scripts.proofs.OneRefusal.{one-refusal}
use Rattle.host_scripts.proofs.parsing.one_refusal.Goals as goal

pub returns : goal.returns
returns c = one-refusal
