use Rattle.std.proofs.Common.{ap, subst}
use Rattle.array_book.specs.Ledgers.{Ledger}
use Rattle.unit_plans.specs.Buses.{merged}
use Rattle.history_locks.specs.PlainBuses.{PlainState, lists_of}
use Rattle.history_locks.proofs.BookActs.{book-lane}
use Rattle.history_locks.proofs.Looking.{Looked, looked}
use Rattle.history_locks.proofs.plain_bus.PlainBusBus.look.Goals as goal

pub returns-clause-waits : goal.returns-clause-waits
returns-clause-waits g c = λ alone pass is.
    let bus = c.args.self.now in
    let found : Looked bus.book c.args.ask.now c.look.result = subst (λ (book : Ledger). Looked book c.args.ask.now c.look.result)
    (ap (λ (b : PlainState). b.book) c.self.view_is) c.look.ensures in
    looked bus.book (merged (lists_of bus)) c.args.ask.now c.look.result (book-lane g.M.Medium.NEVER_FAILS bus pass.stamp is) found
