use Rattle.std.proofs.Common.{◌≡◌, ℕ, ap, ◌∙◌}
use Rattle.array_journal.specs.declared.task.Task.{Task}
use Rattle.array_journal.specs.Acts.{is_target}
use Rattle.array_book.specs.OpenTasks.{first_open}
use Rattle.array_book.proofs.Beginnings.{least-at}
use Rattle.array_book.proofs.ledger.Book.least_at.Goals as goal

pub returns : goal.returns
returns c =
    let is : c.first_acting.result ≡ first_open (λ (task : Task). is_target c.self.inside.setting task c.args.slot) c.self.inside.records =
    c.first_acting.ensures ∙ ap (λ (i : ℕ). first_open (λ (task : Task). is_target c.self.inside.setting task i) c.self.inside.records) c.from-target.ensures in
    rw (← c.self.view_is) (least-at c.self.inside.setting c.self.inside.records c.args.slot c.first_acting.result c.self.invariant.numbered is)
