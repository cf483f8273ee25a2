use Rattle.std.proofs.Common.{ℕ, refl, ap, ◌∙◌, cond, ◌&&◌, None}
use Rattle.std.specs.Prelude.{Option}
use Rattle.dirty_list.specs.Listings.{command_of}
use Rattle.array_journal.specs.declared.event.Event.TheVariants as events
use Rattle.array_journal.specs.declared.task.Task.{Task}
use Rattle.array_journal.specs.Commands.{task_of}
use Rattle.array_journal.specs.Listed.{renews_parity}
use Rattle.array_book.specs.Ledgers.{book_entry}
use Rattle.array_book.proofs.state.BookState.close.Goals as goal

pub returns-clause-ok : goal.returns-clause-ok
returns-clause-ok c past stamp names cause bytes same keeps = record {
  commands = c.in_ok-end.ensures.ok past (book_entry stamp (events.Close c.args.command c.args.done names cause bytes)) refl keeps.commands;
  slots = record { swaps = keeps.slots.swaps };
  noted = record { since = keeps.noted.since; unfitted = keeps.noted.unfitted };
  dirty = record {
    listed = λ s. c.close.ensures s
        ∙ ap (λ (task : Option Task). cond (c.args.done && renews_parity s task) None (command_of s c.args.self.now.dirty.listed)) same
        ∙ ap (λ (old : Option ℕ). cond (c.args.done && renews_parity s (task_of c.args.command past)) None old) (keeps.dirty.listed s);
  };
}
