use Rattle.std.proofs.Common.{reverse, sym, ap, ◌∙◌}
use Rattle.std.specs.Prelude.{is_some}
use Rattle.array_journal.specs.Commands.{tasks_conflict}
use Rattle.array_book.specs.OpenCommands.{open_commands, open_tasks}
use Rattle.array_book.proofs.FirstOpen.{first-some}
use Rattle.array_book.proofs.OpenLaws.{conflict-open}
use Rattle.array_book.proofs.OpenPlaces.{length-open_tasks}
use Rattle.array_book.proofs.state.BookState.first_in_way.Goals as goal

pub returns-clause-found : goal.returns-clause-found
returns-clause-found c =
    let past = reverse c.args.entries.now in
    ap is_some c.first_conflicting.ensures
    ∙ first-some (tasks_conflict c.args.task.now) (open_commands past) (open_tasks past) (length-open_tasks past)
    ∙ sym (conflict-open past c.args.task.now)
