use Rattle.blocks_core.proofs.XorLaws.{xor-comm}
use Rattle.blocks_core.proofs.laws.xor_is_commutative.Goals as goal

pub returns : goal.returns
returns c = xor-comm
