use Rattle.std.proofs.Common.{◌≡◌, ◌<◌, ℕ, reverse}
use Rattle.std.specs.Prelude.{filter, true}
use Rattle.stripe_check.specs.Asked.{is_of_host, goes_back}
use Rattle.trace_check.specs.EntrySteps.{calls_in}
use Rattle.trace_check.proofs.asking.host_order.are_in_turn.Given as goal

abbrev pub invariant-loop-host : goal.invariant-loop-host
invariant-loop-host l = (host : ℕ) → host < l.host → goes_back (filter (is_of_host l.script host) (calls_in (reverse l.entry_steps))) ≡ true
