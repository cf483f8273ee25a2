-- Exclusive-or, part by part.
use Rattle.std.proofs.Common.{◌≡◌, ℕ, ◌+◌, ◌<◌, List, ◌∷◌, length, drop, map, get_or, ◌∙◌}
use Rattle.std.proofs.lemmas.List.{drop_more}
use Rattle.blocks_core.specs.Xor.{xor, xor_all}
use Rattle.blocks_core.proofs.XorLaws.{xor-assoc}
use Rattle.array_journal.specs.declared.at.At.{At}

-- one more named entry
pub sum-more : (f : At → List ℕ) (len : ℕ) (names : List At) (k : ℕ) (d : At) (sum more total : List ℕ) → k < length names → more ≡ xor sum (f (get_or names k d)) →
    xor sum (xor_all len (map f (drop k names))) ≡ total → xor more (xor_all len (map f (drop (k + 1) names))) ≡ total
sum-more f len names k d sum more total lt added so_far =
    let next : drop k names ≡ get_or names k d ∷ drop (k + 1) names = drop_more names k d lt in
    rw added (xor-assoc sum (f (get_or names k d)) (xor_all len (map f (drop (k + 1) names))) ∙ (rw next at so_far))
