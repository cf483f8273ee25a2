use Rattle.std.proofs.Common.{◌∙◌, arith}
use Rattle.xor_params.proofs.ListFaults.{checked-is, checked-means, checked-none}
use Rattle.xor_params.proofs.faults.fault_of.Goals as goal

pub returns-clause-first : goal.returns-clause-first
returns-clause-first c =
    let k = c.check.ensures in
    c.err.ensures.value ∙ checked-is c.args.bytes.now c.args.intdata c.args.bytes_wanted c.check.result k.head k.whole k.clean k.refused

pub returns-clause-means : goal.returns-clause-means
returns-clause-means c =
    let k = c.check.ensures in
    rw c.err.ensures.value (checked-means c.args.bytes.now c.args.intdata c.args.bytes_wanted c.check.result (λ i. omega (arith, c.type_inv.bytes i)) k.head k.whole k.clean k.refused)

pub returns-clause-none : goal.returns-clause-none
returns-clause-none c p spelt =
    c.err.ensures.value ∙ checked-none c.args.bytes.now c.args.intdata c.args.bytes_wanted c.check.result p spelt c.check.ensures.refused
