use Rattle.std.proofs.Common.{◌≡◌, ◌≤◌, false, sym, ◌∙◌, subst}
use Rattle.array_journal.specs.Decision.{opens_conflict, has_room}
use Rattle.array_journal.specs.Entries.{some_at}
use Rattle.array_book.specs.Ledgers.{Ledger}
use Rattle.array_book.proofs.Beginnings.{waits-room}
use Rattle.array_book.proofs.IndexReads.{first-holder}
use Rattle.array_book.proofs.ledger.Book.least_filling.Goals as goal

pub returns-in-Some : goal.returns-in-Some
returns-in-Some c =
    rw (← c.self.view_is)
    (waits-room c.self.inside.setting c.self.inside.records c.args.task.now c.in-Some.target c.first_holder.result c.self.invariant.numbered
    (subst (λ (l : Ledger). c.args.task.now.count ≤ l.setting.buffer) (sym c.self.view_is) c.requires.small)
    (subst (λ (l : Ledger). some_at 0 (opens_conflict l.past c.args.task.now) l.past ≡ false) (sym c.self.view_is) c.requires.alone)
    (subst (λ (l : Ledger). has_room l.setting c.args.task.now l.past ≡ false) (sym c.self.view_is) (sym c.has_room.ensures ∙ c.if-has_room.false)) c.in-Some.ensures
    (first-holder c.self.inside.setting c.self.inside.records c.self.inside.index c.in-Some.target c.first_holder.result c.self.invariant.indexed c.first_holder.ensures))
