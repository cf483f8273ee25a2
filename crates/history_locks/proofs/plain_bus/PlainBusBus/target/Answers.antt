use Rattle.unit_plans.specs.Buses.{merged}
use Rattle.history_locks.specs.PlainBuses.{lists_of}
use Rattle.history_locks.proofs.TargetActs.{ready-at, target-pass, target-begins, target-run, target-done}
use Rattle.history_locks.proofs.plain_bus.PlainBusBus.target.Goals as goal

pub act-requires-clause-ready : goal.act-requires-clause-ready
act-requires-clause-ready g c =
    ready-at g.M.Medium.NEVER_FAILS c.args.self.now c.args.pass.stamp c.args.number c.args.act (merged (lists_of c.args.self.now)) c.requires.pass
    c.requires.act

pub returns-clause-pass : goal.returns-clause-pass
returns-clause-pass g c =
    target-pass g.M.Medium.NEVER_FAILS c.args.self.now c.args.pass.stamp c.args.number c.args.act c.requires.pass c.requires.act c.in_ok-acted.acted
    c.in_ok-acted.stamp
    c.act.new.self c.in_ok-acted.ensures.acts

pub returns-clause-begins : goal.returns-clause-begins
returns-clause-begins g c =
    target-begins g.M.Medium.NEVER_FAILS c.args.self.now c.args.pass.stamp c.args.number c.args.act c.requires.pass c.requires.act c.in_ok-acted.acted
    c.in_ok-acted.stamp
    c.act.new.self c.in_ok-acted.ensures.acts

pub returns-clause-run : goal.returns-clause-run
returns-clause-run g c =
    target-run g.M.Medium.NEVER_FAILS c.args.self.now c.args.pass.stamp c.args.number c.args.act c.requires.pass c.requires.act c.in_ok-acted.acted
    c.in_ok-acted.stamp
    c.act.new.self c.in_ok-acted.ensures.acts

pub returns-clause-done : goal.returns-clause-done
returns-clause-done g c =
    target-done g.M.Medium.NEVER_FAILS c.args.self.now c.args.pass.stamp c.args.number c.args.act c.requires.pass c.requires.act c.in_ok-acted.acted
    c.in_ok-acted.stamp
    c.act.new.self c.in_ok-acted.ensures.acts
