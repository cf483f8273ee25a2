-- What a command did under a lock.
use Rattle.std.specs.Prelude.{ℕ, List}
use Rattle.array_journal.specs.declared.act.Act.TheVariants.{Fetches, Puts, Diffs, Takes, Folds, Holds}
use Rattle.array_journal.specs.Acts.{is_act, shuts_command}
use Rattle.array_journal.specs.declared.entry.Entry.{Entry}
use Rattle.array_journal.specs.Entries.{some_at}
use Rattle.journal_index.specs.declared.acts_done.ActsDone.{ActsDone}

-- what a command did at a lock
abbrev pub acts_done : ℕ → ℕ → List Entry → ActsDone
acts_done lock c past = record {
  fetched = some_at lock (is_act Fetches c) past;
  put = some_at lock (is_act Puts c) past;
  diffed = some_at lock (is_act Diffs c) past;
  taken = some_at lock (is_act Takes c) past;
  folded = some_at lock (is_act Folds c) past;
  held = some_at lock (is_act Holds c) past;
  shut = some_at lock (shuts_command c) past;
}
