use Rattle.std.proofs.Common.{◌≡◌, ◌+◌, drop}
use Rattle.xor_cli.specs.Unsupported.{later_call}
use Rattle.xor_cli.proofs.unsupported.later_call.Given as goal

abbrev pub invariant-loop-place : goal.invariant-loop-place
invariant-loop-place l = later_call l.script (11 + l.place) (drop l.place l.calls) ≡ later_call l.script 11 l.calls
