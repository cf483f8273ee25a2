use Rattle.std.proofs.Common.{◌≡◌, ◌+◌, ◌≤◌, length}
use Rattle.host_scripts.specs.Reading.{calls_at}
use Rattle.host_scripts.proofs.Loops.{with_front}
use Rattle.host_scripts.proofs.lines.call_lines.Given as goal

abbrev pub invariant-loop-rest : goal.invariant-loop-rest
invariant-loop-rest l = record {
  so_far : with_front l.calls (calls_at l.geometry l.hosts (length l.rest) (l.first + length l.calls) l.rest) ≡ calls_at l.geometry l.hosts (length l.bytes) l.first l.bytes;
  fewer : length l.calls + length l.rest ≤ length l.bytes;
}

abbrev pub decreases-loop-rest : goal.decreases-loop-rest
decreases-loop-rest l = length l.rest
