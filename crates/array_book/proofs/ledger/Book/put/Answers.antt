use Rattle.std.proofs.Common.{◌<◌, sym, subst}
use Rattle.array_book.specs.Ledgers.{Ledger, newest_stamp}
use Rattle.array_book.proofs.KeptBooks.{kept-quiet}
use Rattle.array_book.proofs.ledger.Book.put.Goals as goal

pub invariant_of-self-2 : goal.invariant_of-self-2
invariant_of-self-2 c =
    kept-quiet c.self.inside.setting c.self.inside.records c.append.new.self c.in_ok-stamp.stamp c.args.event c.self.inside.index c.self.invariant
    (subst (λ (l : Ledger). newest_stamp l.past < c.in_ok-stamp.stamp) (sym c.self.view_is) c.in_ok-stamp.ensures.later) c.requires c.in_ok-append.ensures.ok
