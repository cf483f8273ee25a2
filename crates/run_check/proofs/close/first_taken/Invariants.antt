use Rattle.std.proofs.Common.{◌≡◌, drop}
use Rattle.array_journal.specs.May.{first_taken}
use Rattle.run_check.proofs.close.first_taken.Given as goal

abbrev pub invariant-loop-name : goal.invariant-loop-name
invariant-loop-name l = first_taken l.past (drop l.name-index l.names) ≡ first_taken l.past l.names
