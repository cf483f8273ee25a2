use Rattle.history_locks.proofs.Starting.{new-pass}
use Rattle.history_locks.proofs.plain_bus.PlainBus.new.Goals as goal

pub returns-clause-pass : goal.returns-clause-pass
returns-clause-pass g c = new-pass g.M.Medium.NEVER_FAILS (record { targets = c.args.targets.items; book = c.args.book; page = c.args.page })
    c.requires.reliable c.requires.first c.entries-entries.ensures.setting
