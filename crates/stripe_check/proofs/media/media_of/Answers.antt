use Rattle.std.proofs.Common.{sym}
use Rattle.stripe_check.proofs.Journals.{read_more}
use Rattle.stripe_check.proofs.media.media_of.Goals as goal

pub loop-entry-preserved : goal.loop-entry-preserved
loop-entry-preserved c =
    rw (read_more _ c.loop-entry.entry-index c.entry-item.result c.loop-entry-test.true (sym c.entry-item.is))
    (c.in_ok-write_entry.ensures.ok _ c.loop-entry.invariant)
