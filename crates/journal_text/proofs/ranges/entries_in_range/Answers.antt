use Rattle.journal_text.specs.Told.{IsToldEntry}
use Rattle.journal_text.proofs.InRange.{all-at}
use Rattle.journal_text.proofs.ranges.entries_in_range.Goals as goal

pub entry_in_range-requires : goal.entry_in_range-requires
entry_in_range-requires c = all-at IsToldEntry c.args.entries.now c.loop-entry.entry-index _ c.requires c.loop-entry-test.true c.entry-item.is
