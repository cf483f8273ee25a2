-- What is known of the commands of some entries.
use Rattle.std.specs.Prelude.{List}
use Rattle.array_journal.specs.declared.entry.Entry.{Entry}
use Rattle.array_book.specs.declared.commands.Commands.{Commands}
use Rattle.array_book.specs.Openings.{KeepsOpenings}
use Rattle.array_book.specs.Endings.{KeepsEndings}
use Rattle.array_book.specs.OpenCommands.{KeepsOpen}

pub record KeepsCommands (past : List Entry) (part : Commands) : Type 0 where
  pub openings : KeepsOpenings past part.openings
  pub endings : KeepsEndings past part.endings
  pub open_commands : KeepsOpen past part.open_commands
