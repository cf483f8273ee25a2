use Rattle.regen_rebuild.proofs.Sums.{gathered-sum}
use Rattle.regen_rebuild.proofs.laws.a_gathering_is_the_sum_of_its_sources.Goals as goal

pub returns : goal.returns
returns c = gathered-sum
