-- How the acts of commands go over one more entry.
use Rattle.std.specs.Prelude.{◌≡◌, ℕ, true, false, List}
use Rattle.std.specs.Option.{unwrap_or}
use Rattle.std.specs.BTreeMap.{get}
use Rattle.array_journal.specs.declared.entry.Entry.{Entry}
use Rattle.array_journal.specs.declared.event.Event.{Event}
use Rattle.array_journal.specs.declared.event.Event.TheVariants.{Fetch, Put, Diff, Take, Fold, Hold, Shut}
use Rattle.journal_index.specs.declared.acts_done.ActsDone.{ActsDone}
use Rattle.journal_index.specs.declared.command_acts.CommandActs.{CommandActs}
use Rattle.journal_index.specs.ActsDone.{acts_done}
use Rattle.journal_index.specs.Keys.{pair_cmp}

abbrev pub none_done : ActsDone
none_done = record { fetched = false; put = false; diffed = false; taken = false; folded = false; held = false; shut = false }

-- acts, and that of one more event
abbrev pub with_act : Event → ActsDone → ActsDone
with_act (Fetch command opened cdb row bytes) d = record d { fetched = true }
with_act (Put command opened cdb row bytes names) d = record d { put = true }
with_act (Diff command opened cdb row bytes sent dropped back) d = record d { diffed = true }
with_act (Take command opened cdb row bytes) d = record d { taken = true }
with_act (Fold command opened cdb row bytes names) d = record d { folded = true }
with_act (Hold command opened cdb row bytes kept names back) d = record d { held = true }
with_act (Shut command opened acted lost) d = record d { shut = true }
with_act _ d = d

-- what is kept are the acts in these entries
abbrev pub KeepsActs : List Entry → CommandActs → Type 0
KeepsActs past m = (lock c : ℕ) → unwrap_or (get pair_cmp m.kept (lock, c)) none_done ≡ acts_done lock c past
