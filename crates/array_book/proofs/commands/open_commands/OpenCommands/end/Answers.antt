use Rattle.std.proofs.Common.{rules, ◌==◌, not}
use Rattle.std.proofs.lemmas.Fn.{filter_same}
use Rattle.array_book.proofs.commands.open_commands.OpenCommands.end.Goals as goal

pub returns : goal.returns
returns c = filter_same _ (λ s. not (s.command == c.args.command)) _ (λ s b f called. search rules) _ _ c.retain.ensures.filtered
