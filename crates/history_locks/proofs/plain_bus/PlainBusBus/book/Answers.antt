use Rattle.history_locks.proofs.BookActs.{book-pass, book-begins, book-run, book-done}
use Rattle.history_locks.proofs.plain_bus.PlainBusBus.book.Goals as goal

pub returns-clause-pass : goal.returns-clause-pass
returns-clause-pass g c =
    book-pass g.M.Medium.NEVER_FAILS c.args.self.now c.args.pass.stamp c.args.act c.requires.pass c.requires.act c.in_ok-acted.acted c.in_ok-acted.stamp
    c.note_down.new.self
    c.in_ok-acted.ensures.acts

pub returns-clause-begins : goal.returns-clause-begins
returns-clause-begins g c =
    book-begins g.M.Medium.NEVER_FAILS c.args.self.now c.args.pass.stamp c.args.act c.requires.pass c.requires.act c.in_ok-acted.acted c.in_ok-acted.stamp
    c.note_down.new.self c.in_ok-acted.ensures.acts

pub returns-clause-run : goal.returns-clause-run
returns-clause-run g c =
    book-run g.M.Medium.NEVER_FAILS c.args.self.now c.args.pass.stamp c.args.act c.requires.pass c.requires.act c.in_ok-acted.acted c.in_ok-acted.stamp
    c.note_down.new.self
    c.in_ok-acted.ensures.acts

pub returns-clause-done : goal.returns-clause-done
returns-clause-done g c =
    book-done g.M.Medium.NEVER_FAILS c.args.self.now c.args.pass.stamp c.args.act c.requires.pass c.requires.act c.in_ok-acted.acted c.in_ok-acted.stamp
    c.note_down.new.self
    c.in_ok-acted.ensures.acts
