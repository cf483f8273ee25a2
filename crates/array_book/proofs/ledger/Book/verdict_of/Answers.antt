use Rattle.std.proofs.Common.{◌≡◌, refl, sym, ap, ◌∙◌, subst}
use Rattle.array_journal.specs.declared.task.Task.{Task}
use Rattle.array_book.specs.Asks.{bytes_of, task_at}
use Rattle.array_book.specs.Begins.{asked_task}
use Rattle.array_book.specs.Ledgers.{Ledger, AreNumbered}
use Rattle.array_book.specs.Waits.{IsFree}
use Rattle.array_book.proofs.Beginnings.{waits-alike, free-alike, waits-none}
use Rattle.array_book.proofs.ledger.Book.verdict_of.Goals as goal

pub returns-in-Some : goal.returns-in-Some
returns-in-Some c =
    let probe : c.task-task.result ≡ task_at c.args.self.now.setting.geometry c.args.ask.now.call c.args.ask.now.piece c.args.kind c.args.aim c.new-bytes.result =
    c.task-task.ensures
    ∙ ap (λ (l : Ledger). task_at l.setting.geometry c.args.ask.now.call c.args.ask.now.piece c.args.kind c.args.aim c.new-bytes.result) c.self.view_is in
    waits-alike c.args.self.now.setting c.args.self.now.past c.task-task.result (asked_task c.args.self.now c.args.ask.now c.args.kind c.args.aim)
    (sym (ap (λ (t : Task). record t { bytes = bytes_of c.args.ask.now.want }) probe)) c.in-Some.by c.in-Some.ensures

pub returns : goal.returns
returns c =
    let probe : c.task-task.result ≡ task_at c.args.self.now.setting.geometry c.args.ask.now.call c.args.ask.now.piece c.args.kind c.args.aim c.new-bytes.result =
    c.task-task.ensures
    ∙ ap (λ (l : Ledger). task_at l.setting.geometry c.args.ask.now.call c.args.ask.now.piece c.args.kind c.args.aim c.new-bytes.result) c.self.view_is in
    let free : IsFree c.args.self.now.setting c.args.self.now.past (asked_task c.args.self.now c.args.ask.now c.args.kind c.args.aim) =
    free-alike c.args.self.now.setting c.args.self.now.past c.task-task.result (asked_task c.args.self.now c.args.ask.now c.args.kind c.args.aim)
    (sym (ap (λ (t : Task). record t { bytes = bytes_of c.args.ask.now.want }) probe)) c.in-None.ensures in (
      (refl, refl),
      record {
        free = free;
        for_none = waits-none c.args.self.now.setting c.args.self.now.past (asked_task c.args.self.now c.args.ask.now c.args.kind c.args.aim)
            (subst (λ (l : Ledger). AreNumbered l.past) c.self.view_is c.self.invariant.numbered) free;
      },
    )
