use Rattle.std.proofs.Common.{◌<◌, arith}
use Rattle.run_check.specs.SentDeltas.{kept_delta}
use Rattle.run_check.proofs.KeptDeltas.{kept-more}
use Rattle.run_check.proofs.deltas.SentDeltas.add.Goals as goal

pub returns : goal.returns
returns c = λ past few media kept.
    kept-more c.args.setting.now past c.args.entry.now c.in_ok-sent.sent (kept_delta c.args.self.now) (kept_delta c.put.new.self)
    (λ i at h. let lt : i < c.args.setting.now.geometry.targets = omega (arith, few, at) in c.in_ok-sent.ensures i past media at lt h)
    c.in_ok-put.ensures kept
