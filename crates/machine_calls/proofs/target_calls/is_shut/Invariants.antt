use Rattle.std.proofs.Common.{◌≡◌, None, take, reverse}
use Rattle.array_journal.specs.Owners.{shut_at}
use Rattle.machine_calls.proofs.target_calls.is_shut.Given as goal

-- no entry so far shuts the owner
abbrev pub invariant-loop-entry : goal.invariant-loop-entry
invariant-loop-entry l = shut_at l.target.number l.owner (reverse (take l.entry-index l.entry-items)) ≡ None
