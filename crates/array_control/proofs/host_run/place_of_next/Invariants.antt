-- What comes from the place on is all that came from the first one on.
use Rattle.std.proofs.Common.{◌≡◌, ◌+◌, drop}
use Rattle.array_control.specs.HostCalls.{calls_from}
use Rattle.array_control.proofs.host_run.place_of_next.Given as goal

abbrev pub invariant-loop-place : goal.invariant-loop-place
invariant-loop-place l = calls_from l.host (l.from + 1) (drop l.from l.calls) ≡ calls_from l.host (l.place + 1) (drop l.place l.calls)
