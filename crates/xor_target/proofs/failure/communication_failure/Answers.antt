use Rattle.std.proofs.Common.{refl}
use Rattle.sense_data.proofs.Values.{same_sense}
use Rattle.xor_target.proofs.failure.communication_failure.Goals as goal

pub returns : goal.returns
returns c = same_sense _ _ refl
