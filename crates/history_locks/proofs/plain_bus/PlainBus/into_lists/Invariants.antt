-- what was taken so far, with what the targets that are left have, is all
use Rattle.std.proofs.Common.{◌≡◌, ◌++◌, map}
use Rattle.std.specs.Vec.Iter.{into_iter_items}
use Rattle.array_journal.specs.EntryLists.{lists_in}
use Rattle.xor_target.specs.State.{TargetState}
use Rattle.history_locks.specs.PlainBuses.{entries_of, lists_of}
use Rattle.history_locks.proofs.plain_bus.PlainBus.into_lists.Given as goal

abbrev pub invariant-loop-target : goal.invariant-loop-target
invariant-loop-target g l =
    (lists_in l.lists.items ++ map entries_of (into_iter_items l.target-iterator) ≡ lists_of l.fn.self)
    × ((map g.M.Medium.contents l.media.items ++ map (λ (t : TargetState). t.contents) (into_iter_items l.target-iterator) ≡ map
    (λ (t : TargetState). t.contents) l.fn.self.targets)
    × (map g.M.Medium.faults l.media.items ++ map (λ (t : TargetState). t.faults) (into_iter_items l.target-iterator) ≡ map (λ (t : TargetState). t.faults)
    l.fn.self.targets))
