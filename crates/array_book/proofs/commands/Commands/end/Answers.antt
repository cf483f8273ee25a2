use Rattle.std.proofs.Common.{refl}
use Rattle.array_book.specs.CommandSteps.{Ends}
use Rattle.array_book.proofs.KeptCommands.{openings-kept, endings-more, open_commands-fewer}
use Rattle.array_book.proofs.commands.Commands.end.Goals as goal

pub returns-clause-ok : goal.returns-clause-ok
returns-clause-ok c past e is keeps = record {
  openings = openings-kept (Ends c.args.command c.args.done) e past _ is (λ n. refl) refl keeps.openings;
  endings = endings-more c.args.command c.args.done e past c.args.self.now.endings c.add.new.self is c.in_ok-add.ensures.ended c.in_ok-add.ensures.done keeps.endings;
  open_commands = open_commands-fewer c.args.command c.args.done e past c.args.self.now.open_commands c.end.new.self is c.end.ensures keeps.open_commands;
}
