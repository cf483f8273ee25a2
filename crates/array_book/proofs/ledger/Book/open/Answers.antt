use Rattle.std.proofs.Common.{sym, ap, ◌∙◌, subst}
use Rattle.array_journal.specs.declared.task.Task.{Task}
use Rattle.array_journal.specs.May.{IsTask}
use Rattle.array_journal.specs.Run.{IsSetting}
use Rattle.array_book.specs.Asks.{bytes_of, task_at}
use Rattle.array_book.specs.Ledgers.{Ledger, AreNumbered}
use Rattle.array_book.proofs.Beginnings.{has-opened, opens-sound}
use Rattle.array_book.proofs.ledger.Book.open.Goals as goal

pub returns-clause-ok : goal.returns-clause-ok
returns-clause-ok c =
    has-opened c.args.self.now c.args.ask.now c.args.kind c.args.aim.now c.args.stamp c.put_opening.new.self c.in_ok-at.at c.in-Some.command c.in_ok-task.task
    (subst (λ (l : Ledger). IsSetting l.setting) c.self.view_is c.self.invariant.setting)
    (subst (λ (l : Ledger). AreNumbered l.past) c.self.view_is c.self.invariant.numbered)
    c.requires.want c.requires.opens
    (c.in_ok-task.ensures
    ∙ ap (λ (l : Ledger). task_at l.setting.geometry c.args.ask.now.call c.args.ask.now.piece c.args.kind c.args.aim.now (bytes_of c.args.ask.now.want)) c.self.view_is)
    c.in-Some.ensures c.in_ok-at.ensures.name
    c.in_ok-at.ensures.made

pub put_opening-requires-clause-sound : goal.put_opening-requires-clause-sound
put_opening-requires-clause-sound c =
    subst (λ (t : Task). IsTask c.args.self.now.setting t)
    (sym
    (c.in_ok-task.ensures
    ∙ ap (λ (l : Ledger). task_at l.setting.geometry c.args.ask.now.call c.args.ask.now.piece c.args.kind c.args.aim.now (bytes_of c.args.ask.now.want)) c.self.view_is))
    (opens-sound c.args.self.now c.args.ask.now c.args.kind c.args.aim.now (subst (λ (l : Ledger). IsSetting l.setting) c.self.view_is c.self.invariant.setting)
    c.requires.want c.requires.opens)
