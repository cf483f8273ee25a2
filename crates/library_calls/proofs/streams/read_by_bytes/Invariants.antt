use Rattle.std.proofs.Common.{ℕ, ◌+◌, ◌≤◌}
use Rattle.target_frames.specs.State.{HasRoom}
use Rattle.library_calls.proofs.streams.read_by_bytes.Given as goal

-- there is room for the bytes that still come
abbrev pub invariant-loop-byte : goal.invariant-loop-byte
invariant-loop-byte l = (n : ℕ) → n + l.byte-index ≤ 100 → HasRoom l.frames n
