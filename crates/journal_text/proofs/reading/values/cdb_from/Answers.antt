use Rattle.std.proofs.Common.{arith}
use Rattle.journal_text.proofs.Leaves.{cdb-long, cdb-short, zeros-there}
use Rattle.journal_text.proofs.reading.values.cdb_from.Goals as goal

pub returns-then-len-gt16 : goal.returns-then-len-gt16
returns-then-len-gt16 c = cdb-long c.args.bytes.now (omega arith)

pub invariant_of-result-clause-padded : goal.invariant_of-result-clause-padded
invariant_of-result-clause-padded c = λ k le. zeros-there c.args.bytes.now c.padded.result _ k c.padded.ensures (omega arith) le

pub returns : goal.returns
returns c = cdb-short c.args.bytes.now _ c.padded.ensures (omega arith) (omega arith)
