use Rattle.std.proofs.Common.{◌≡◌, ◌<◌, true, sym, subst}
use Rattle.array_journal.specs.Commands.{open_count}
use Rattle.array_journal.specs.May.{IsTask}
use Rattle.array_book.specs.Ledgers.{Ledger, newest_stamp}
use Rattle.array_book.specs.OpenCommands.{has_ended}
use Rattle.array_book.proofs.KeptBooks.{kept-idle}
use Rattle.array_book.proofs.ledger.Book.append_idle.Goals as goal

pub invariant_of-self : goal.invariant_of-self
invariant_of-self c =
    kept-idle c.self.inside.setting c.self.inside.records c.append.new.self c.args.entry c.args.command c.args.task.now c.self.inside.index c.append.result c.self.invariant c.requires.opens
    (subst (λ (l : Ledger). newest_stamp l.past < c.args.entry.stamp) (sym c.self.view_is) c.requires.later)
    (subst (λ (l : Ledger). c.args.command ≡ open_count l.past) (sym c.self.view_is) c.requires.numbered)
    (subst (λ (l : Ledger). IsTask l.setting c.args.task.now) (sym c.self.view_is) c.requires.sound)
    (subst (λ (l : Ledger). has_ended l.past c.args.command ≡ true) (sym c.self.view_is) c.requires.ended)
    c.append.ensures.ok c.append.ensures.err
