use Rattle.journal_text.proofs.TraceLaws.{answer-spelt, answer-fault}
use Rattle.journal_text.proofs.reading.read_trace.Goals as goal

pub returns-clause-spelt : goal.returns-clause-spelt
returns-clause-spelt c = λ j s. answer-spelt c.args.bytes.now c.traced.result c.traced.ensures j s

pub returns-clause-fault : goal.returns-clause-fault
returns-clause-fault c = λ n q. answer-fault c.args.bytes.now c.traced.result c.traced.ensures n q
