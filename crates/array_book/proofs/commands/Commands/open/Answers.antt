use Rattle.std.proofs.Common.{refl, ap, ◌∙◌, ◌++◌, ◌∷◌, [], List, Bool, cond}
use Rattle.array_book.specs.CommandSteps.{Opens}
use Rattle.array_book.specs.declared.commands.open_commands.OpenCommand.{OpenCommand}
use Rattle.array_book.proofs.KeptCommands.{openings-more, endings-kept, endings-same, open_commands-more}
use Rattle.array_book.proofs.commands.Commands.open.Goals as goal

pub returns-clause-ok : goal.returns-clause-ok
returns-clause-ok c past e is at keeps = record {
  openings = openings-more c.args.command c.args.place e past _ _ is at c.in_ok-add.ensures.places c.in_ok-add.ensures.count keeps.openings;
  endings = endings-kept (Opens c.args.command) e past _ is (λ n. refl) (λ n. refl)
      (endings-same past c.args.self.now.endings c.expect.new.self c.expect.ensures.ended c.expect.ensures.done keeps.endings);
  open_commands = open_commands-more c.args.command c.args.place e past c.args.self.now.open_commands c.add-2.new.self is at
      (c.add-2.ensures
      ∙ ap (λ (xs : List OpenCommand). xs ++ cond c.has_ended-ended.result [] (record { command = c.args.command; place = c.args.place } ∷ [])) c.reserve.ensures.same
      ∙ ap (λ (b : Bool). c.args.self.now.open_commands.openings.items ++ cond b [] (record { command = c.args.command; place = c.args.place } ∷ []))
      (c.has_ended-ended.ensures ∙ keeps.endings.ended c.args.command))
      keeps.open_commands;
}
