use Rattle.std.proofs.Common.{List, sym, subst, ◌≡◌}
use Rattle.array_journal.specs.declared.entry.Entry.{Entry}
use Rattle.array_journal.specs.OneJournal.{journal_of, AreKept}
use Rattle.bench_runs.specs.BenchRuns.{newest_stamp}
use Rattle.bench_runs.proofs.rows.into_journal.Goals as goal

pub returns : goal.returns
returns c =
    let Merges : List (List Entry) → Type 0 = λ lists. c.in_ok-journal.journal ≡ journal_of lists in
    subst Merges c.in_ok-lists.ensures
    (c.in_ok-journal.ensures.one (newest_stamp c.args.row) (subst (AreKept (newest_stamp c.args.row)) (sym c.in_ok-lists.ensures) c.requires))
