use Rattle.std.proofs.Common.{arith, length, ap}
use Rattle.std.proofs.lemmas.List.{take_rest}
use Rattle.stripe_check.proofs.Overwrites.{fold-late}
use Rattle.stripe_check.proofs.medium.ReplayedMedium.fold.Goals as goal

pub returns-clause-ok : goal.returns-clause-ok
returns-clause-ok c =
    rw (c.fold_within.ensures, c.in_ok-append.ensures.ok, take_rest)
    (fold-late c.args.self.now c.args.bytes.now c.args.at c.min-start.result c.min-over.result (omega (arith, ap length c.self.view_is)) (omega (arith, ap length c.self.view_is)))
