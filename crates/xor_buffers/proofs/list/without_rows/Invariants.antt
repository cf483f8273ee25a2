use Rattle.std.proofs.Common.{◌≡◌, ◌++◌}
use Rattle.std.specs.Vec.Iter.{into_iter_items}
use Rattle.xor_buffers.specs.Held.{take_rows}
use Rattle.xor_buffers.specs.Steps.{left_of}
use Rattle.xor_buffers.proofs.list.without_rows.Given as goal

abbrev pub invariant-loop-held : goal.invariant-loop-held
invariant-loop-held l =
    l.left.items ++ left_of l.taken l.rows.block l.rows.row l.rows.len (into_iter_items l.held-iterator)
    ≡ take_rows l.rows.block l.rows.row l.rows.len (into_iter_items l.initial.held-iterator)
