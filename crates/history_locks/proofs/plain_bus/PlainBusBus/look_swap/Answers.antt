use Rattle.std.proofs.Common.{ap, subst}
use Rattle.array_book.specs.Ledgers.{Ledger}
use Rattle.unit_plans.specs.Buses.{merged}
use Rattle.history_locks.specs.PlainBuses.{PlainState, lists_of}
use Rattle.history_locks.proofs.BookActs.{book-lane}
use Rattle.history_locks.proofs.Looking.{LookedSwap, looked-swap}
use Rattle.history_locks.proofs.plain_bus.PlainBusBus.look_swap.Goals as goal

pub returns-clause-waits : goal.returns-clause-waits
returns-clause-waits g c = λ alone pass is.
    let bus = c.args.self.now in
    let found : LookedSwap bus.book c.args.slot c.look_swap.result = subst (λ (book : Ledger). LookedSwap book c.args.slot c.look_swap.result)
    (ap (λ (b : PlainState). b.book) c.self.view_is) c.look_swap.ensures in
    looked-swap bus.book (merged (lists_of bus)) c.args.slot c.look_swap.result (book-lane g.M.Medium.NEVER_FAILS bus pass.stamp is) found
