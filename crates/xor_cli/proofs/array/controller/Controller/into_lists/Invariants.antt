-- the lists so far, with the entries of the targets that are left, are all
use Rattle.std.proofs.Common.{◌≡◌, ◌++◌, map}
use Rattle.std.specs.Vec.Iter.{into_iter_items}
use Rattle.array_journal.specs.EntryLists.{lists_in}
use Rattle.xor_cli.specs.Arrays.{lists_of}
use Rattle.xor_cli.specs.Disks.{Lane}
use Rattle.xor_cli.proofs.array.controller.Controller.into_lists.Given as goal

abbrev pub invariant-loop-target : goal.invariant-loop-target
invariant-loop-target l = lists_in l.lists.items ++ map (λ (t : Lane). t.entries) (into_iter_items l.target-iterator) ≡ lists_of l.fn.self
