use Rattle.std.proofs.Common.{ap, ◌∙◌, ◌≡◌, Option, Some, None}
use Rattle.std.specs.Prelude.{slice_get}
use Rattle.array_book.specs.declared.commands.open_commands.OpenCommand.{OpenCommand}
use Rattle.array_book.proofs.OpenPlaces.{open_task-known}
use Rattle.array_book.proofs.commands.Commands.open_task.Goals as goal

pub returns-in-Some : goal.returns-in-Some
returns-in-Some c past same keeps =
    let looked : Some c.in-Some.opening.now ≡ slice_get c.args.self.now.open_commands.openings.items c.args.k = c.in-Some.ensures in
    c.task_at.ensures
    ∙ open_task-known past c.args.entries.now c.args.k (Some c.in-Some.opening.now) same (looked ∙ ap (λ xs. slice_get xs c.args.k) keeps.open_commands)

pub returns-in-None : goal.returns-in-None
returns-in-None c past same keeps =
    let looked : ◌≡◌ {A = Option OpenCommand} None (slice_get c.args.self.now.open_commands.openings.items c.args.k) = c.in-None.ensures in
    open_task-known past c.args.entries.now c.args.k None same (looked ∙ ap (λ xs. slice_get xs c.args.k) keeps.open_commands)
