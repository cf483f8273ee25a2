use Rattle.std.proofs.Common.{◌≡◌, ◌<◌, ℕ, [], length, get_or}
use Rattle.run_check.proofs.buffers.first_buffers.Given as goal

abbrev pub invariant-loop : goal.invariant-loop
invariant-loop l = record {
  count : length l.buffers.items ≡ l.counter;
  each : (i : ℕ) → i < l.counter → get_or l.buffers.items i [] ≡ [];
}
