use Rattle.std.proofs.Common.{arith}
use Rattle.journal_text.proofs.InRange.{all-below}
use Rattle.journal_text.proofs.ranges.owners_in_range.Goals as goal

pub returns : goal.returns
returns c = all-below 4294967296 c.args.owners.now (λ k. omega (arith, c.type_inv.owners k))
