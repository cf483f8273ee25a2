use Rattle.std.proofs.Common.{take}
use Rattle.std.specs.Prelude.{◌↔◌, IsTrue}
use Rattle.stripe_check.specs.Asked.{AreServed}
use Rattle.trace_check.proofs.asking.calls.are_served.Given as goal

abbrev pub invariant-loop-place : goal.invariant-loop-place
invariant-loop-place l = IsTrue l.served ↔ AreServed l.script l.noted 1 (take l.place l.script.calls)
