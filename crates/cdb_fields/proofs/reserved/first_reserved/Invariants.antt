use Rattle.std.proofs.Common.{ℕ, ◌<◌}
use Rattle.cdb_fields.specs.Fields.{SharesNone}
use Rattle.cdb_fields.proofs.reserved.first_reserved.Given as goal

abbrev pub invariant-loop-i : goal.invariant-loop-i
invariant-loop-i l = (k : ℕ) → k < l.i → SharesNone l.mask l.bytes k
