use Rattle.std.proofs.Common.{reverse, ap, sym, subst}
use Rattle.xor_target.specs.Facts.{IsLog}
use Rattle.xor_target.proofs.LogLaws.{log-none}
use Rattle.xor_target.proofs.log.TargetLog.new.Goals as goal

pub invariant_of-result : goal.invariant_of-result
invariant_of-result c =
    subst (λ past. IsLog c.args.number past c.new-2.result) (sym (ap reverse c.new.ensures))
    (log-none c.args.number c.new-2.result c.requires (c.new-2.ensures c.args.number))
