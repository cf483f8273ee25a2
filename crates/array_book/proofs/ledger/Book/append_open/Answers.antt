use Rattle.std.proofs.Common.{◌≡◌, ◌<◌, false, sym, ◌∙◌, subst}
use Rattle.array_journal.specs.Commands.{open_count}
use Rattle.array_journal.specs.May.{IsTask}
use Rattle.array_book.specs.Ledgers.{Ledger, newest_stamp}
use Rattle.array_book.specs.OpenCommands.{has_ended}
use Rattle.array_book.proofs.KeptBooks.{next-stranger, kept-opened, kept-back}
use Rattle.array_book.proofs.Results.{no-err, no-ok}
use Rattle.array_book.proofs.ledger.Book.append_open.Goals as goal

pub open-requires : goal.open-requires
open-requires c =
    next-stranger c.self.inside.setting c.self.inside.records c.self.inside.index c.args.command c.self.invariant
    (subst (λ (l : Ledger). c.args.command ≡ open_count l.past) (sym c.self.view_is) c.requires.numbered)

pub invariant_of-self-then-is_err : goal.invariant_of-self-then-is_err
invariant_of-self-then-is_err c =
    kept-back c.self.inside.setting c.self.inside.records c.append.new.self c.args.command c.args.task.now c.self.inside.index c.open.new.self c.end.new.self c.self.invariant
    (subst (λ (l : Ledger). c.args.command ≡ open_count l.past) (sym c.self.view_is) c.requires.numbered)
    (no-ok c.append.result _ (sym c.is_err.ensures.value ∙ c.if-is_err.true) c.append.ensures.err) c.in_ok-open.ensures.ok c.end.ensures

pub invariant_of-self-else-is_err : goal.invariant_of-self-else-is_err
invariant_of-self-else-is_err c =
    kept-opened c.self.inside.setting c.self.inside.records c.append.new.self c.args.entry c.args.command c.args.task.now c.self.inside.index c.open.new.self c.self.invariant c.requires.opens
    (subst (λ (l : Ledger). newest_stamp l.past < c.args.entry.stamp) (sym c.self.view_is) c.requires.later)
    (subst (λ (l : Ledger). c.args.command ≡ open_count l.past) (sym c.self.view_is) c.requires.numbered)
    (subst (λ (l : Ledger). IsTask l.setting c.args.task.now) (sym c.self.view_is) c.requires.sound)
    (subst (λ (l : Ledger). has_ended l.past c.args.command ≡ false) (sym c.self.view_is) c.requires.not_ended)
    (no-err c.append.result _ (sym c.is_err.ensures.value ∙ c.if-is_err.false) c.append.ensures.ok) c.in_ok-open.ensures.ok
