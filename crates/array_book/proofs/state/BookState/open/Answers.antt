use Rattle.std.proofs.Common.{refl, sym, ap, ◌∙◌}
use Rattle.array_journal.specs.declared.event.Event.TheVariants as events
use Rattle.array_book.specs.Ledgers.{book_entry}
use Rattle.array_book.specs.Noted.{since_opening}
use Rattle.array_book.proofs.Results.{no-err}
use Rattle.array_book.proofs.state.BookState.open.Goals as goal

pub returns-clause-ok : goal.returns-clause-ok
returns-clause-ok c past stamp at keeps = record {
  commands = no-err c.open-2.result _ (sym c.is_err.ensures.value ∙ c.if-is_err.false) c.open-2.ensures.ok
      past (book_entry stamp (events.Open c.args.command c.args.task.now)) refl at keeps.commands;
  slots = record { swaps = keeps.slots.swaps };
  noted = record {
    since = λ i q. c.in_ok-open.ensures.since i q ∙ ap (λ old. since_opening i q c.args.command c.args.task.now old) (keeps.noted.since i q);
    unfitted = λ i. c.open.ensures.unfitted i ∙ keeps.noted.unfitted i;
  };
  dirty = record { listed = keeps.dirty.listed };
}
