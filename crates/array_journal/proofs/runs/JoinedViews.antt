-- A rule that numbered all entries would part two views of one journal.
use Rattle.std.proofs.Common.{refl, lit<}
use Rattle.sbc_cdbs.specs.declared.descriptor.Cdb.{Cdb}
use Rattle.array_journal.specs.declared.act.Act.TheVariants.{Diffs}
use Rattle.array_journal.specs.May.{May, MayAct}
use Rattle.array_journal.specs.ExampleJournals.{small, at, write_task, SpellsAct}
use Rattle.array_journal.specs.Joined.{long_view, written_block, NumbersPartViews}
use Rattle.array_journal.proofs.example_runs.TriedWrites.{may-diff}

follows-long : (diff : Cdb) → SpellsAct small write_task 0 Diffs diff → May small long_view (written_block diff)
follows-long diff spelt = (refl, (lit< tt, (write_task, record { act = act; written = refl; sent_by_mode = refl; back_by_mode = refl; dropped_when_due = refl })))
  where
    act : MayAct small long_view 2 0 0 (at 1 0) diff 0 8 0 write_task Diffs
    act = record { opening = (refl, lit< tt); in_book = refl; of_task = refl; not_gone = refl; not_shut = refl; once = refl; same_life = refl; at_row = refl; whole = refl; spelt = spelt }

pub numbers-part_views : NumbersPartViews
numbers-part_views diff spelt = record {
  short = may-diff diff spelt;
  long = follows-long diff spelt;
  numbered_short = refl;
  not_long = λ numbered. cc;
}
