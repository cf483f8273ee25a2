use Rattle.std.proofs.Common.{◌≡◌, ◌++◌, drop}
use Rattle.stripe_check.specs.Found.{replies_found}
use Rattle.stripe_check.proofs.reports.push_replies.Given as goal

abbrev pub invariant-loop-place : goal.invariant-loop-place
invariant-loop-place l =
    l.text ++ replies_found l.story.reads.items l.story.failures.items l.story.tallies.items l.place (drop l.place l.calls)
    ≡ l.initial.text ++ replies_found l.story.reads.items l.story.failures.items l.story.tallies.items 0 l.calls
