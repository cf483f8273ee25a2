-- the targets so far are those that the script has first
use Rattle.std.proofs.Common.{◌≡◌, map}
use Rattle.array_journal.specs.Lists.{numbers}
use Rattle.array_calls.specs.FirstBus.{first_target}
use Rattle.array_calls.proofs.first_bus.first_targets.Given as goal

abbrev pub invariant-loop-number : goal.invariant-loop-number
invariant-loop-number l = l.targets.items ≡ map (first_target l.script) (numbers 0 l.number)
