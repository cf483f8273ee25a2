use Rattle.std.proofs.Common.{arith, length, ap}
use Rattle.std.proofs.lemmas.List.{take_rest}
use Rattle.blocks_core.proofs.XorLaws.{xor-late}
use Rattle.blocks_core.proofs.sum.XorSum.add.Goals as goal

pub returns-clause-ok : goal.returns-clause-ok
returns-clause-ok c =
    rw (c.add_within.ensures, c.in_ok-append.ensures.ok, take_rest)
    (xor-late c.args.self.now c.args.bytes.now c.min-within.result (omega (arith, ap length c.self.view_is)))
