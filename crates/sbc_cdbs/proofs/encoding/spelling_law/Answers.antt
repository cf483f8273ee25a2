use Rattle.sbc_cdbs.proofs.Answers.{one_command}
use Rattle.sbc_cdbs.proofs.encoding.spelling_law.Goals as goal

pub returns : goal.returns
returns c = one_command
