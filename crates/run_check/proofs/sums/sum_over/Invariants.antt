use Rattle.std.proofs.Common.{◌≡◌, drop, map}
use Rattle.blocks_core.specs.Xor.{xor, xor_all}
use Rattle.array_journal.specs.May.{bytes_named}
use Rattle.run_check.proofs.sums.sum_over.Given as goal

abbrev pub invariant-loop-name : goal.invariant-loop-name
invariant-loop-name l =
    xor l.sum (xor_all l.len (map (bytes_named l.past) (drop l.name-index l.names)))
    ≡ xor l.first (xor_all l.len (map (bytes_named l.past) l.names))
