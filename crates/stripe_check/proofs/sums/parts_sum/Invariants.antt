use Rattle.std.proofs.Common.{◌≡◌, drop, length}
use Rattle.blocks_core.specs.Xor.{xor, xor_all}
use Rattle.stripe_check.specs.Sums.{parts_on}
use Rattle.stripe_check.proofs.sums.parts_sum.Given as goal

abbrev pub invariant-loop-medium : goal.invariant-loop-medium
invariant-loop-medium l = record {
  sum : xor l.sum (xor_all l.len (parts_on l.at l.len (drop l.medium-index l.media))) ≡ xor_all l.len (parts_on l.at l.len l.media);
  size : length l.sum ≡ l.len;
}
