use Rattle.std.proofs.Common.{sym}
use Rattle.stripe_check.proofs.Journals.{read_more}
use Rattle.stripe_check.proofs.call_outcomes.story_of.Goals as goal

pub loop-entry-preserved : goal.loop-entry-preserved
loop-entry-preserved c =
    rw (read_more _ c.loop-entry.entry-index c.entry-item.result c.loop-entry-test.true (sym c.entry-item.is))
    (c.in_ok-tell.ensures _ _ c.loop-entry.invariant)
