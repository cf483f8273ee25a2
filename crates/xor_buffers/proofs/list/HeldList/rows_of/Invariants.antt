use Rattle.std.proofs.Common.{◌≡◌, drop}
use Rattle.xor_buffers.specs.Held.{rows_held}
use Rattle.xor_buffers.proofs.list.HeldList.rows_of.Given as goal

abbrev pub invariant-loop-held : goal.invariant-loop-held
invariant-loop-held l =
    rows_held l.rows.block l.owner l.rows.row l.rows.len (drop l.held-index l.held-items) ≡ rows_held l.rows.block l.owner l.rows.row l.rows.len l.held-items
