use Rattle.std.proofs.Common.{take, reverse}
use Rattle.stripe_check.specs.Folds.{AreMedia}
use Rattle.stripe_check.proofs.media.media_of.Given as goal

abbrev pub invariant-loop-entry : goal.invariant-loop-entry
invariant-loop-entry l = AreMedia l.setting (reverse (take l.entry-index l.entry-items)) l.media.items
