-- The blocks of slots in a region that has grown.
use Rattle.std.proofs.Common.{◌≡◌, ℕ, ◌+◌, ◌*◌, ◌≤◌, List, [], ◌∷◌, ◌++◌, length, take, refl, ap, sym, ◌∙◌, arith}
use Rattle.std.proofs.lemmas.List.{length-take, take-take, take_at}
use Rattle.blocks_core.specs.Lists.{slice, block_at}
use Rattle.blocks_core.proofs.BlockLists.{slice-slice, block_end}
use Rattle.xor_buffers.specs.Slots.{gathered, IsOrder, numbers_from}
use Rattle.xor_buffers.proofs.SlotOrders.{AreBelow, below_first, below_rest}
use Rattle.xor_buffers.proofs.GatheredSlots.{gathered-append, length-gathered}

-- a longer region has the same blocks in its slots
pub gathered-longer : (b n : ℕ) (r longer order : List ℕ) → take (n * b) longer ≡ take (n * b) r → AreBelow n order →
    gathered b longer order ≡ gathered b r order
gathered-longer b n r longer [] same below = refl
gathered-longer b n r longer (x ∷ xs) same below =
    ap (λ t. t ++ gathered b longer xs)
    (within longer ∙ ap (λ t. slice t (x * b) b) same ∙ sym (within r))
    ∙ ap (λ t. block_at b r x ++ t) (gathered-longer b n r longer xs same (below_rest n x xs below))
  where
    within : (l : List ℕ) → block_at b l x ≡ slice (take (n * b) l) (x * b) b
    within l = sym (slice-slice l 0 (n * b) (x * b) b (block_end b x n (below_first n x xs below)) ∙ ap (λ m. slice l m b) (omega arith))

-- a region that has grown has what stood in it
pub gathered-kept : (b : ℕ) (r longer order : List ℕ) → length order * b ≤ length r → take (length r) longer ≡ r → AreBelow (length order) order →
    gathered b longer order ≡ gathered b r order
gathered-kept b r longer order h kept below =
    gathered-longer b (length order) r longer order (sym (take-take (length order * b) (length r) longer h) ∙ ap (take (length order * b)) kept) below

pub length-kept : (r longer : List ℕ) → take (length r) longer ≡ r → length r ≤ length longer
length-kept r longer kept = omega (arith, length-take (length r) longer, ap (λ (l : List ℕ). length l) kept)

-- more slots behind those that there were
pub gathered-grown : (b more : ℕ) (r longer order : List ℕ) → (length order + more) * b ≤ length longer → length order * b ≤ length r → take (length r) longer ≡ r →
    IsOrder (length order) order →
    take (length order * b) (gathered b longer (order ++ numbers_from (length order) more)) ≡ gathered b r order
gathered-grown b more r longer order room h kept o =
    ap (take (length order * b)) (gathered-append b longer order (numbers_from (length order) more))
    ∙ take_at (gathered b longer order) (gathered b longer (numbers_from (length order) more)) (length order * b)
    (length-gathered b (length order) longer order (omega (arith, h, length-kept r longer kept)) o.inside)
    ∙ gathered-kept b r longer order h kept o.inside
