-- What was gathered is the exclusive-or of all that was accepted.
use Rattle.std.proofs.Common.{◌≡◌, ◌∙◌, ◌*◌, ℕ, List, [], ◌∷◌, ap, refl}
use Rattle.blocks_core.specs.Xor.{xor, xor_all}
use Rattle.blocks_core.proofs.XorLaws.{xor-comm}
use Rattle.regen_rebuild.specs.Gatherings.{Part, fresh, gathered, parts_bytes}

pub gathered-sum : (block count sources : ℕ) (parts : List Part) → (gathered (fresh block count sources) parts).sum ≡ xor_all (count * block) (parts_bytes parts)
gathered-sum block count sources [] = refl
gathered-sum block count sources (part ∷ past) =
    xor-comm (gathered (fresh block count sources) past).sum part.bytes ∙ ap (xor part.bytes) (gathered-sum block count sources past)
