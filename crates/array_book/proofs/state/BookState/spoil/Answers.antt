use Rattle.std.proofs.Common.{ℕ, refl, sym, ap, ◌∙◌, cond, ◌&&◌, not, Some}
use Rattle.std.specs.Prelude.{Option, is_some}
use Rattle.dirty_list.specs.Listings.{command_of}
use Rattle.array_journal.specs.declared.event.Event.TheVariants as events
use Rattle.array_journal.specs.declared.task.Task.{Task}
use Rattle.array_journal.specs.Commands.{task_of}
use Rattle.array_journal.specs.Listed.{has_stripe}
use Rattle.array_book.specs.Ledgers.{book_entry}
use Rattle.array_book.proofs.Results.{no-err}
use Rattle.array_book.proofs.state.BookState.spoil.Goals as goal

pub returns-clause-ok : goal.returns-clause-ok
returns-clause-ok c past stamp diff loss shut same keeps = record {
  commands = no-err c.end.result _ (sym c.is_err.ensures.value ∙ c.if-is_err.false) c.end.ensures.ok
      past (book_entry stamp (events.Spoil c.args.command diff loss shut)) refl keeps.commands;
  slots = record { swaps = keeps.slots.swaps };
  noted = record { since = keeps.noted.since; unfitted = keeps.noted.unfitted };
  dirty = record {
    listed = λ s. c.in_ok-spoil.ensures.ok s
        ∙ ap (λ (task : Option Task). cond (has_stripe s task && not (is_some (command_of s c.args.self.now.dirty.listed))) (Some c.args.command) (command_of s c.args.self.now.dirty.listed)) same
        ∙ ap (λ (old : Option ℕ). cond (has_stripe s (task_of c.args.command past) && not (is_some old)) (Some c.args.command) old) (keeps.dirty.listed s);
  };
}
