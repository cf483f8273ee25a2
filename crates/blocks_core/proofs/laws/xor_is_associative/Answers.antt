use Rattle.blocks_core.proofs.XorLaws.{xor-assoc}
use Rattle.blocks_core.proofs.laws.xor_is_associative.Goals as goal

pub returns : goal.returns
returns c = xor-assoc
