-- the lists so far, with the entries of the targets that are left, are all
use Rattle.std.proofs.Common.{◌≡◌, ◌++◌, map, reverse}
use Rattle.std.specs.Vec.Iter.{into_iter_items}
use Rattle.array_journal.specs.EntryLists.{lists_in}
use Rattle.xor_target.specs.State.{TargetState}
use Rattle.bench_runs.specs.BenchRuns.{lists_of}
use Rattle.bench_runs.proofs.rows.into_lists.Given as goal

abbrev pub invariant-loop-target : goal.invariant-loop-target
invariant-loop-target l = lists_in l.lists.items ++ map (λ (t : TargetState). reverse t.past) (into_iter_items l.target-iterator) ≡ lists_of l.fn.row
