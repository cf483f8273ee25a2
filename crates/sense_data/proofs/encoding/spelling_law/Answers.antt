use Rattle.sense_data.proofs.Answers.{one_sense}
use Rattle.sense_data.proofs.encoding.spelling_law.Goals as goal

pub returns : goal.returns
returns c = one_sense
