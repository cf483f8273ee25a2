-- what these owners hold is discarded, with that of those that are left, as that of all; and there are seats for those
-- that are left
use Rattle.std.proofs.Common.{◌≡◌, ◌==◌, ◌≤◌, ◌+◌, ℕ, length, drop}
use Rattle.std.specs.List.{list_any}
use Rattle.std.specs.HashMap.{spare}
use Rattle.xor_target.specs.Facts.{state_of, discarded_by}
use Rattle.xor_target.proofs.log.owner_states.OwnerStates.discard.Given as goal

abbrev pub invariant-loop-owner : goal.invariant-loop-owner
invariant-loop-owner l =
    ((c : ℕ) → discarded_by l.at (list_any (λ (x : ℕ). x == c) (drop l.owner-index l.owners)) (state_of l.self c)
    ≡ discarded_by l.at (list_any (λ (x : ℕ). x == c) l.owners) (state_of l.initial.self c))
    × ((length l.owners ≤ l.owner-index + spare l.self.kept) × (spare l.initial.self.kept ≤ spare l.self.kept + l.owner-index))
