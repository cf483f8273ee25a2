use Rattle.std.proofs.Common.{◌≡◌, List, sym, subst}
use Rattle.array_journal.specs.declared.entry.Entry.{Entry}
use Rattle.array_journal.specs.OneJournal.{journal_of, AreKept}
use Rattle.history_locks.proofs.plain_bus.PlainBus.finish.Goals as goal

pub returns-clause-journal : goal.returns-clause-journal
returns-clause-journal g c = λ stamp pass.
    let Merges : List (List Entry) → Type 0 = λ lists. c.in_ok-journal.journal ≡ journal_of lists in
    subst Merges c.in_ok-lists.ensures.lists (c.in_ok-journal.ensures.one stamp (subst (AreKept stamp) (sym c.in_ok-lists.ensures.lists) pass.lists.kept))
