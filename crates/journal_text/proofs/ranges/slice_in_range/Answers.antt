use Rattle.std.proofs.Common.{arith}
use Rattle.journal_text.proofs.InRange.{all-below}
use Rattle.journal_text.proofs.ranges.slice_in_range.Goals as goal

pub returns : goal.returns
returns c = all-below 256 c.args.bytes.now (λ k. omega (arith, c.type_inv.bytes k))
