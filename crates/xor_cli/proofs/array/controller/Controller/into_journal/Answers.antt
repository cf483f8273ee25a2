use Rattle.std.proofs.Common.{List, sym, subst, ◌≡◌}
use Rattle.array_journal.specs.declared.entry.Entry.{Entry}
use Rattle.array_journal.specs.OneJournal.{journal_of, AreKept}
use Rattle.xor_cli.proofs.array.controller.Controller.into_journal.Goals as goal

pub returns : goal.returns
returns c =
    let Journal : List (List Entry) → Type 0 = λ lists. c.in_ok-journal.journal ≡ journal_of lists in
    subst Journal c.in_ok-lists.ensures
    (c.in_ok-journal.ensures.one c.args.self.stamp (subst (AreKept c.args.self.stamp) (sym c.in_ok-lists.ensures) c.requires.kept))
