-- What stands between two lines of a bench.
use Rattle.std.specs.Prelude.{◌≤◌, ℕ, List, reverse}
use Rattle.array_journal.specs.Calm.{IsStamped}
use Rattle.array_journal.specs.OneJournal.{journal_of, AreKept}
use Rattle.xor_target.specs.State.{TargetState}
use Rattle.xor_target.specs.Rigs.{IsRow, NoneWaits}
use Rattle.bench_runs.specs.BenchRuns.{newest_stamp, lists_of}

-- Before the line with this number each target is at its place, none waits for the owner of a
-- line that is still to come, and the entries of all have the stamps 1, 2, 3 and so on.
pub record IsReady (number : ℕ) (ts : List TargetState) : Type 0 where
  pub row : IsRow ts
  pub idle : (owner : ℕ) → number ≤ owner → NoneWaits owner ts
  pub kept : AreKept (newest_stamp ts) (lists_of ts)
  pub stamped : IsStamped (reverse (journal_of (lists_of ts)))
