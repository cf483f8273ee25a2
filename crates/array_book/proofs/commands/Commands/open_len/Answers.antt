use Rattle.std.proofs.Common.{ap, ◌∙◌, length}
use Rattle.array_book.proofs.OpenPlaces.{length-open_tasks}
use Rattle.array_book.proofs.commands.Commands.open_len.Goals as goal

pub returns : goal.returns
returns c past keeps = c.len.ensures ∙ ap length keeps.open_commands ∙ length-open_tasks past
