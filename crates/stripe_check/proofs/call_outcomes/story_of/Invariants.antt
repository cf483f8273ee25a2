use Rattle.std.proofs.Common.{take, reverse}
use Rattle.stripe_check.specs.CallOutcomes.{Tells}
use Rattle.stripe_check.proofs.call_outcomes.story_of.Given as goal

abbrev pub invariant-loop-entry : goal.invariant-loop-entry
invariant-loop-entry l =
    Tells l.calls (reverse (take l.entry-index l.entry-items)) l.story.commands.items l.story.reads.items l.story.failures.items l.story.tallies.items l.story.listed
