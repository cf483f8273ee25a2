-- the lines so far are done, and what the lines that are left come to, all come to
use Rattle.std.proofs.Common.{◌≡◌, ◌+◌, ◌++◌, ℕ, List, length, drop}
use Rattle.xor_target.specs.State.{TargetState}
use Rattle.bench_runs.specs.BenchRuns.{AreDone}
use Rattle.bench_runs.specs.Ready.{IsReady}
use Rattle.bench_runs.proofs.rows.serve_all.Given as goal

abbrev pub invariant-loop-place : goal.invariant-loop-place
invariant-loop-place l = record {
  count : length l.row ≡ length l.fn.row;
  ready : IsReady (l.place + 1) l.row;
  goes_on : (after : List TargetState) (rest : List ℕ) → AreDone (l.place + 1) l.row (drop l.place l.lines) after rest → AreDone 1 l.fn.row l.lines after (l.text ++ rest);
}
