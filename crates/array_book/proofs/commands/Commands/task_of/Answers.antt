use Rattle.std.proofs.Common.{◌∙◌, ◌≡◌, Some, None}
use Rattle.array_book.proofs.OpenPlaces.{task-known}
use Rattle.array_book.proofs.commands.Commands.task_of.Goals as goal

pub returns-in-Some : goal.returns-in-Some
returns-in-Some c past same keeps =
    let at : Some c.in-Some.place ≡ c.place_of.result = cc in
    c.task_at.ensures
    ∙ task-known c.args.command past c.args.entries.now (Some c.in-Some.place) same (at ∙ c.place_of.ensures ∙ keeps.openings.places c.args.command)

pub returns-in-None : goal.returns-in-None
returns-in-None c past same keeps =
    let none : None ≡ c.place_of.result = cc in
    task-known c.args.command past c.args.entries.now None same (none ∙ c.place_of.ensures ∙ keeps.openings.places c.args.command)
