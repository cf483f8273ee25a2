use Rattle.std.proofs.Common.{◌<◌, sym, subst}
use Rattle.std.specs.Option.{option_copied}
use Rattle.array_book.specs.Ledgers.{Ledger, newest_stamp}
use Rattle.array_book.proofs.KeptBooks.{kept-ended}
use Rattle.array_book.proofs.ledger.Book.put_end.Goals as goal

pub invariant_of-self-2 : goal.invariant_of-self-2
invariant_of-self-2 c =
    kept-ended c.self.inside.setting c.self.inside.records c.append.new.self c.in_ok-stamp.stamp c.args.command c.args.event (option_copied c.task_if-task.result) c.is_open-was_open.result
    c.self.inside.index c.end.new.self c.self.invariant
    (subst (λ (l : Ledger). newest_stamp l.past < c.in_ok-stamp.stamp) (sym c.self.view_is) c.in_ok-stamp.ensures.later) c.requires c.is_open-was_open.ensures
    c.in_ok-append.ensures.ok c.task_if-task.ensures c.end.ensures
