-- What a row of targets ends as whose targets are lent.
use Rattle.std.specs.Prelude.{List, length}
use Rattle.std.specs.List.{refill}
use Rattle.std.specs.Borrow.{Lends, Fml, RattleType, MutBor, Array}
use Rattle.sector_media.specs.declared.medium.Medium.{Ghosts}
use Rattle.xor_target.specs.State.{TargetState}
use Rattle.xor_target.specs.contracts.rig.Rig.{the_row as rig_row}
use Rattle.xor_target.specs.contracts.target.Target.{the_row as target_row}

-- once the loan r ends, the row is what r shows last, as long as it was
abbrev pub lends_targets : (M : RattleType) → Ghosts M.Denot → MutBor (List TargetState) → MutBor (List TargetState) → Fml
lends_targets M medium row r = Lends (rig_row M medium) (Array (target_row M medium) 0) row r (refill (length row.now) row.now)
