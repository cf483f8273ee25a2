use Rattle.std.proofs.Common.{take, reverse}
use Rattle.std.specs.Prelude.{filter}
use Rattle.stripe_check.specs.Asked.{is_of_host}
use Rattle.trace_check.specs.EntrySteps.{calls_in}
use Rattle.trace_check.specs.HostOrder.{IsOrderOf}
use Rattle.trace_check.proofs.asking.host_order.is_in_turn.Given as goal

abbrev pub invariant-loop-entry_step : goal.invariant-loop-entry_step
invariant-loop-entry_step l = IsOrderOf l.order (filter (is_of_host l.script l.host) (calls_in (reverse (take l.entry_step-index l.entry_steps))))
