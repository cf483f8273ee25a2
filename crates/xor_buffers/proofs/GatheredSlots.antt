-- The blocks of slots in an order, cut at a place, and where some of the slots are let go.
use Rattle.std.proofs.Common.{◌≡◌, ℕ, ◌+◌, ◌-◌, ◌*◌, ◌<◌, ◌≤◌, List, [], ◌∷◌, ◌++◌, length, take, drop, get_or, refl, ap, sym, ◌∙◌, subst, arith}
use Rattle.std.proofs.Math.Nat.{add-mul, suc-mul, zero-mul}
use Rattle.std.proofs.lemmas.List.{append_assoc, length-take-le, length-drop, length-append, drop-take, take-take, drop-drop, drop_at, take_at, take-append-drop, drop_more}
use Rattle.blocks_core.specs.Lists.{slice, block_at}
use Rattle.blocks_core.proofs.BlockLists.{length-block_at, block_end}
use Rattle.xor_buffers.specs.Slots.{gathered, released}
use Rattle.xor_buffers.proofs.SlotOrders.{AreBelow, below_left, below_first, below_rest, below_drop}

pub gathered-append : (b : ℕ) (r xs ys : List ℕ) → gathered b r (xs ++ ys) ≡ gathered b r xs ++ gathered b r ys
gathered-append b r [] ys = refl
gathered-append b r (x ∷ xs) ys = ap (λ t. block_at b r x ++ t) (gathered-append b r xs ys) ∙ sym (append_assoc (block_at b r x) (gathered b r xs) (gathered b r ys))

pub length-gathered : (b n : ℕ) (r order : List ℕ) → n * b ≤ length r → AreBelow n order → length (gathered b r order) ≡ length order * b
length-gathered b n r [] h below = sym (zero-mul b)
length-gathered b n r (x ∷ xs) h below =
    let first : length (block_at b r x) ≡ b = length-block_at b r x n h (below_first n x xs below) in
    let rest : length (gathered b r xs) ≡ length xs * b = length-gathered b n r xs h (below_rest n x xs below) in
    omega (arith, length-append (block_at b r x) (gathered b r xs), first, rest, suc-mul (length xs) b)

-- the slots in front of a place, and those from it on
pub take-gathered : (b n : ℕ) (r order : List ℕ) (q : ℕ) → n * b ≤ length r → AreBelow n order → q ≤ length order →
    take (q * b) (gathered b r order) ≡ gathered b r (take q order)
take-gathered b n r order q h below le =
    ap (take (q * b)) whole ∙ take_at (gathered b r (take q order)) (gathered b r (drop q order)) (q * b) size
  where
    whole : gathered b r order ≡ gathered b r (take q order) ++ gathered b r (drop q order)
    whole = ap (gathered b r) (sym (take-append-drop q order)) ∙ gathered-append b r (take q order) (drop q order)

    size : length (gathered b r (take q order)) ≡ q * b
    size =
        length-gathered b n r (take q order) h (below_left n (take q order) (drop q order) (rw (take-append-drop q order) below))
        ∙ ap (λ m. m * b) (length-take-le q order le)

pub drop-gathered : (b n : ℕ) (r order : List ℕ) (q : ℕ) → n * b ≤ length r → AreBelow n order → q ≤ length order →
    drop (q * b) (gathered b r order) ≡ gathered b r (drop q order)
drop-gathered b n r order q h below le =
    ap (drop (q * b)) whole ∙ drop_at (gathered b r (take q order)) (gathered b r (drop q order)) (q * b) size
  where
    whole : gathered b r order ≡ gathered b r (take q order) ++ gathered b r (drop q order)
    whole = ap (gathered b r) (sym (take-append-drop q order)) ∙ gathered-append b r (take q order) (drop q order)

    size : length (gathered b r (take q order)) ≡ q * b
    size =
        length-gathered b n r (take q order) h (below_left n (take q order) (drop q order) (rw (take-append-drop q order) below))
        ∙ ap (λ m. m * b) (length-take-le q order le)

-- some of them
pub slice-gathered : (b n : ℕ) (r order : List ℕ) (q k : ℕ) → n * b ≤ length r → AreBelow n order → q + k ≤ length order →
    slice (gathered b r order) (q * b) (k * b) ≡ gathered b r (take k (drop q order))
slice-gathered b n r order q k h below le =
    ap (take (k * b)) (drop-gathered b n r order q h below (omega arith))
    ∙ take-gathered b n r (drop q order) k h (below_drop n q order below) (omega (arith, length-drop q order))

-- the block at a place
pub block-gathered : (b n : ℕ) (r order : List ℕ) (q d : ℕ) → n * b ≤ length r → AreBelow n order → q < length order →
    block_at b (gathered b r order) q ≡ block_at b r (get_or order q d)
block-gathered b n r order q d h below lt =
    ap (take b) (drop-gathered b n r order q h below (omega arith) ∙ ap (gathered b r) (drop_more order q d lt))
    ∙ take_at (block_at b r (get_or order q d)) (gathered b r (drop (q + 1) order)) b
    (length-block_at b r (get_or order q d) n h (below_first n (get_or order q d) (drop (q + 1) order) (subst (AreBelow n) (drop_more order q d lt) (below_drop n q order below))))

-- some slots let go
pub gathered-released : (b n : ℕ) (r order : List ℕ) (at count used : ℕ) → n * b ≤ length r → AreBelow n order → at + count ≤ used → used ≤ length order →
    gathered b r (take at order ++ (drop count (take (used - at) (drop at order)) ++ take count (take (used - at) (drop at order)) ++ drop used order))
    ≡ released (at * b) (count * b) (used * b) (gathered b r order)
gathered-released b n r order at count used h below within le =
    gathered-append b r (take at order) _
    ∙ ap (λ t. gathered b r (take at order) ++ t)
    (gathered-append b r (drop count mid ++ take count mid) (drop used order) ∙ ap (λ t. t ++ gathered b r (drop used order)) (gathered-append b r (drop count mid) (take count mid)))
    ∙ ap (λ t. t ++ (gathered b r (drop count mid) ++ gathered b r (take count mid) ++ gathered b r (drop used order))) (sym (take-gathered b n r order at h below (omega arith)))
    ∙ ap (λ t. take (at * b) g ++ (t ++ gathered b r (take count mid) ++ gathered b r (drop used order))) behind
    ∙ ap (λ t. take (at * b) g ++ (slice g (at * b + count * b) (used * b - (at * b + count * b)) ++ t ++ gathered b r (drop used order))) gone
    ∙ ap (λ t. take (at * b) g ++ (slice g (at * b + count * b) (used * b - (at * b + count * b)) ++ slice g (at * b) (count * b) ++ t)) (sym (drop-gathered b n r order used h below le))
    ∙ regroup (take (at * b) g) _ _ _
  where
    mid : List ℕ
    mid = take (used - at) (drop at order)

    g : List ℕ
    g = gathered b r order

    regroup : (w x y z : List ℕ) → w ++ (x ++ y ++ z) ≡ w ++ x ++ y ++ z
    regroup w x y z = sym (append_assoc w (x ++ y) z) ∙ ap (λ t. t ++ z) (sym (append_assoc w x y))

    sums : at * b + count * b ≡ (at + count) * b
    sums = sym (add-mul at count b)

    less : used * b - (at * b + count * b) ≡ (used - (at + count)) * b
    less = omega (arith, sums, ap (λ m. m * b) whole, add-mul (at + count) (used - (at + count)) b)
      where
        whole : used ≡ at + count + (used - (at + count))
        whole = omega (arith, within)

    rest : drop count mid ≡ take (used - (at + count)) (drop (at + count) order)
    rest =
        ap (λ m. drop count (take m (drop at order))) long ∙ drop-take count (used - (at + count)) (drop at order)
        ∙ ap (take (used - (at + count))) (drop-drop count at order)
      where
        long : used - at ≡ count + (used - (at + count))
        long = omega (arith, within)

    behind : gathered b r (drop count mid) ≡ slice g (at * b + count * b) (used * b - (at * b + count * b))
    behind =
        ap (gathered b r) rest ∙ sym (slice-gathered b n r order (at + count) (used - (at + count)) h below (omega (arith, within, le)))
        ∙ ap (λ m. slice g m ((used - (at + count)) * b)) (sym sums)
        ∙ ap (slice g (at * b + count * b)) (sym less)

    gone : gathered b r (take count mid) ≡ slice g (at * b) (count * b)
    gone =
        ap (gathered b r) (take-take count (used - at) (drop at order) (omega (arith, within)))
        ∙ sym (slice-gathered b n r order at count h below (omega (arith, within, le)))

-- where the block at a place stands in the region
pub slot_inside : (b : ℕ) (r order : List ℕ) (q : ℕ) → length order * b ≤ length r → AreBelow (length order) order → q < length order →
    get_or order q 0 * b + b ≤ length r
slot_inside b r order q h below lt =
    omega (
      arith,
      h,
      block_end b (get_or order q 0) (length order)
          (below_first (length order) (get_or order q 0) (drop (q + 1) order) (subst (AreBelow (length order)) (drop_more order q 0 lt) (below_drop (length order) q order below))),
    )
