-- The exclusive-or of parts of media, one after another.
use Rattle.std.proofs.Common.{◌≡◌, ℕ, ◌+◌, ◌<◌, List, ◌∷◌, length, drop, get_or, ap, ◌∙◌}
use Rattle.std.proofs.lemmas.List.{drop_more}
use Rattle.blocks_core.specs.Xor.{xor, xor_all}
use Rattle.blocks_core.proofs.XorLaws.{xor-assoc}
use Rattle.blocks_core.specs.Lists.{slice}
use Rattle.stripe_check.specs.Sums.{parts_on}

-- one more medium
pub sum_more : (sum part : List ℕ) (at len i : ℕ) (media : List (List ℕ)) (m : List ℕ) (total : List ℕ) → i < length media → get_or media i m ≡ m → part ≡ slice m at len →
    xor sum (xor_all len (parts_on at len (drop i media))) ≡ total → xor (xor sum part) (xor_all len (parts_on at len (drop (i + 1) media))) ≡ total
sum_more sum part at len i media m total lt here is so_far =
    let next : drop i media ≡ m ∷ drop (i + 1) media = drop_more media i m lt ∙ ap (λ x. x ∷ drop (i + 1) media) here in
    rw is (xor-assoc sum (slice m at len) (xor_all len (parts_on at len (drop (i + 1) media)))) ∙ (rw next at so_far)
