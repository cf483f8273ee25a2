-- what was joined so far, with the lists that are left, is all
use Rattle.std.proofs.Common.{◌≡◌, ◌++◌}
use Rattle.std.specs.Vec.Iter.{into_iter_items}
use Rattle.array_journal.specs.EntryLists.{lists_in}
use Rattle.array_journal.specs.Merge.{joined}
use Rattle.array_journal.proofs.journal.merge.Given as goal

abbrev pub invariant-loop-list : goal.invariant-loop-list
invariant-loop-list l = l.kept.items ++ joined (lists_in (into_iter_items l.list-iterator)) ≡ joined (lists_in (into_iter_items l.initial.list-iterator))
