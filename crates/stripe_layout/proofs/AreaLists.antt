-- One area more is kept behind the others.
use Rattle.std.proofs.Common.{◌≡◌, ℕ, zero, suc, ◌+◌, ◌-◌, ◌<◌, List, [], ◌∷◌, ◌++◌, length, take, set, replicate, refl, ap, sym, ◌∙◌, arith}
use Rattle.std.specs.Prelude.{slice_set}
use Rattle.std.proofs.lemmas.List.{length-set, length-take, length-append}
use Rattle.std.proofs.Math.Seq.{take-append_seam}
use Rattle.stripe_layout.specs.declared.areas.Area.{Area}
use Rattle.stripe_layout.specs.declared.areas.Areas.TheInside.{Inside}
use Rattle.stripe_layout.specs.AreaLists.{no_area, IsKept}

set-behind : {A : Type 0} (xs : List A) (n m : ℕ) (x y : A) → length xs ≡ n → set (xs ++ replicate (suc m) x) n y ≡ (xs ++ y ∷ []) ++ replicate m x
set-behind [] zero m x y e = refl
set-behind [] (suc n) m x y e = absurd (omega (arith, e))
set-behind (z ∷ xs) zero m x y e = absurd (omega (arith, e))
set-behind {A = A} (z ∷ xs) (suc n) m x y e = ap (λ (more : List A). z ∷ more) (set-behind xs n m x y (omega (arith, e)))

pub kept-more : (a : Inside) (n : ℕ) (area : Area) → IsKept a → a.len < 8 → n ≡ a.len → IsKept (record { kept = slice_set a.kept n area; len = a.len + 1 })
kept-more a n area is room same = record {
  size = length-set a.kept n area ∙ is.size;
  few = omega (arith, room);
  blank = kept ∙ ap (λ (xs : List Area). xs ++ replicate (8 - (a.len + 1)) no_area) (sym there);
}
  where
    xs : List Area
    xs = take a.len a.kept

    size : length xs ≡ a.len
    size = omega (arith, length-take a.len a.kept, is.size, is.few)

    kept : slice_set a.kept n area ≡ (xs ++ area ∷ []) ++ replicate (8 - (a.len + 1)) no_area
    kept =
        ap (λ (all : List Area). set all n area) (is.blank ∙ ap (λ m. xs ++ replicate m no_area) (left a.len room))
        ∙ set-behind xs n (8 - (a.len + 1)) no_area area (size ∙ sym same)
      where
        left : (k : ℕ) → k < 8 → 8 - k ≡ suc (8 - (k + 1))
        left k h = omega arith

    there : take (a.len + 1) (slice_set a.kept n area) ≡ xs ++ area ∷ []
    there =
        ap (take (a.len + 1)) kept
        ∙ ap (λ k. take k ((xs ++ area ∷ []) ++ replicate (8 - (a.len + 1)) no_area)) (omega (arith, length-append xs (area ∷ []), size))
        ∙ take-append_seam (xs ++ area ∷ []) (replicate (8 - (a.len + 1)) no_area)

-- where the list is short there is room
pub shorter : (a : Inside) (areas : List Area) → IsKept a → take a.len a.kept ≡ areas → length areas < 8 → a.len < 8
shorter a areas is same h = omega (arith, h, ap length same, length-take a.len a.kept, is.size, is.few)
