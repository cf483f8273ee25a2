use Rattle.std.proofs.Common.{take}
use Rattle.std.specs.List.{AllByRecursion}
use Rattle.array_calls.specs.FirstHost.{IsOfFirst}
use Rattle.array_calls.proofs.hosts_calls.are_of_first.Given as goal

-- those looked at so far are
abbrev pub invariant-loop-call : goal.invariant-loop-call
invariant-loop-call l = AllByRecursion IsOfFirst (take l.call-index l.calls)
