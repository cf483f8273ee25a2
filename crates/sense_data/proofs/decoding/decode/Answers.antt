use Rattle.sense_data.proofs.Answers.{reads, refuses}
use Rattle.sense_data.proofs.decoding.decode.Goals as goal

pub returns-clause-read : goal.returns-clause-read
returns-clause-read c = reads c.args.bytes.now c.first_answer.result c.first_answer.ensures

pub returns-clause-refused : goal.returns-clause-refused
returns-clause-refused c = refuses c.args.bytes.now c.first_answer.result c.first_answer.ensures
