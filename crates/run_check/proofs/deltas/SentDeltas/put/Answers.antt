use Rattle.std.proofs.Common.{cond, Some, ap, ◌∙◌}
use Rattle.run_check.specs.SentDeltas.{kept_delta}
use Rattle.run_check.proofs.NameKeys.{is_named}
use Rattle.run_check.proofs.deltas.SentDeltas.put.Goals as goal

pub returns-in_ok-insert : goal.returns-in_ok-insert
returns-in_ok-insert c = λ name.
    rw c.in-Some.is
    (c.in_ok-insert.ensures.updates.0 (name.stamp, name.lock)
    ∙ ap (λ b. cond b (Some c.in-Some.delta) (kept_delta c.args.self.now name)) (is_named c.args.entry.now name))
