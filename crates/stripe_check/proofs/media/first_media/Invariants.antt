use Rattle.std.proofs.Common.{◌≡◌, ◌*◌, ◌<◌, ℕ, [], length, get_or}
use Rattle.blocks_core.specs.Xor.{zeros}
use Rattle.stripe_layout.specs.Layout.{rows_of}
use Rattle.stripe_check.proofs.media.first_media.Given as goal

abbrev pub invariant-loop : goal.invariant-loop
invariant-loop l = record {
  count : length l.media.items ≡ l.counter;
  each : (i : ℕ) → i < l.counter → get_or l.media.items i [] ≡ zeros (rows_of l.setting.geometry * l.setting.geometry.block);
}
