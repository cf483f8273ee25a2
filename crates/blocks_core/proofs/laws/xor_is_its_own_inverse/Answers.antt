use Rattle.blocks_core.proofs.XorLaws.{xor-self, xor-undone}
use Rattle.blocks_core.proofs.laws.xor_is_its_own_inverse.Goals as goal

pub returns-clause-zeros : goal.returns-clause-zeros
returns-clause-zeros c = xor-self

pub returns-clause-undone : goal.returns-clause-undone
returns-clause-undone c = xor-undone
