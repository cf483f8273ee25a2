use Rattle.std.proofs.Common.{sym, arith, ◌∙◌}
use Rattle.std.proofs.lemmas.List.{drop_all, length-replicate}
use Rattle.blocks_core.proofs.XorLaws.{xor-zeros_front, xor-zeros, length-xor_all, length-xor_front}
use Rattle.stripe_check.proofs.Additions.{sum_more}
use Rattle.stripe_check.specs.Sums.{parts_on}
use Rattle.stripe_check.proofs.sums.parts_sum.Goals as goal

pub loop-medium-init : goal.loop-medium-init
loop-medium-init c = record {
  sum = rw c.in_ok-sum.ensures (xor-zeros_front c.args.len _ (length-xor_all c.args.len (parts_on c.args.at c.args.len c.args.media.now)));
  size = rw c.in_ok-sum.ensures (length-replicate c.args.len 0);
}

pub loop-medium-preserved : goal.loop-medium-preserved
loop-medium-preserved c = record {
  sum = rw c.in_ok-add.ensures.ok
      (sum_more c.loop-medium.sum c.part.result.now c.args.at c.args.len c.loop-medium.medium-index c.args.media.now c.medium-item.result _
      c.loop-medium-test.true (sym c.medium-item.is) c.part.ensures.value c.loop-medium.invariant.sum);
  size = rw c.in_ok-add.ensures.ok
      (length-xor_front c.loop-medium.sum c.part.result.now (omega (arith, c.loop-medium.invariant.size, c.part.ensures.short)) ∙ c.loop-medium.invariant.size);
}

pub returns : goal.returns
returns c =
    sym (xor-zeros c.args.len c.loop-medium.sum c.loop-medium.invariant.size)
    ∙ (rw (drop_all c.loop-medium.medium-index c.args.media.now c.loop-medium-test.false) at c.loop-medium.invariant.sum)
