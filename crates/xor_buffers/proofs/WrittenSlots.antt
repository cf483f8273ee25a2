-- What is written to the slot at a place stands there in the order, and nowhere else.
use Rattle.std.proofs.Common.{◌≡◌, ℕ, ◌+◌, ◌*◌, ◌<◌, ◌≤◌, ◌⊎◌, inl, inr, Bool, cond, List, [], ◌∷◌, ◌++◌, length, take, drop, get_or, refl, ap, sym, ◌∙◌, arith}
use Rattle.std.proofs.Math.Nat.{add-mul}
use Rattle.std.proofs.lemmas.Nat.{mul-le}
use Rattle.std.proofs.lemmas.Bool.{eq-eqb, cases_lt}
use Rattle.std.proofs.lemmas.List.{append_assoc}
use Rattle.blocks_core.specs.Lists.{slice, put, block_at}
use Rattle.blocks_core.proofs.BlockLists.{slice-put_in, block_at-put_out}
use Rattle.xor_buffers.specs.Slots.{gathered, times_in}
use Rattle.xor_buffers.proofs.SlotOrders.{times_in-append, stands, AreBelow, below_left, below_right, below_first, below_rest, parted}
use Rattle.xor_buffers.proofs.GatheredSlots.{gathered-append, take-gathered, drop-gathered}

-- a block that is put to a slot leaves all other slots
pub gathered-put_out : (b n s : ℕ) (r bytes order : List ℕ) → n * b ≤ length r → AreBelow n order → s < n → length bytes ≡ b → times_in s order ≡ 0 →
    gathered b (put r (s * b) bytes) order ≡ gathered b r order
gathered-put_out b n s r bytes [] h below lt size none = refl
gathered-put_out b n s r bytes (x ∷ xs) h below lt size none =
    ap (λ t. t ++ gathered b (put r (s * b) bytes) xs) other
    ∙ ap (λ t. block_at b r x ++ t) (gathered-put_out b n s r bytes xs h (below_rest n x xs below) lt size (omega arith))
  where
    beside : (x ≡ s → ⊥) → (x < s) ⊎ (s + 1 ≤ x)
    beside ne = elim (cases_lt x s) [
      | inl less ↦ inl less
      | inr more ↦ inr (omega (arith, ne))
    ]

    apart : x ≡ s → ⊥
    apart e = omega (arith, stands (x ∷ xs) 0 0 (omega arith), ap (λ m. times_in m (x ∷ xs)) e, none)

    other : block_at b (put r (s * b) bytes) x ≡ block_at b r x
    other = block_at-put_out b r s bytes 1 x (omega (arith, mul-le s b n b (omega arith) (omega arith), h)) (omega (arith, size)) (beside apart)

-- and one that is put to the slot at a place is put there in the order
pub gathered-put : (b n : ℕ) (r bytes order : List ℕ) (q d : ℕ) → n * b ≤ length r → AreBelow n order → ((s : ℕ) → times_in s order ≤ 1) →
    q < length order → length bytes ≡ b →
    gathered b (put r (get_or order q d * b) bytes) order ≡ put (gathered b r order) (q * b) bytes
gathered-put b n r bytes order q d h below once lt size =
    ap (gathered b new) split ∙ gathered-append b new front (s ∷ back)
    ∙ ap (λ t. t ++ gathered b new (s ∷ back)) (gathered-put_out b n s r bytes front h front_below s_below size none_before)
    ∙ ap (λ t. gathered b r front ++ (t ++ gathered b new back)) own
    ∙ ap (λ t. gathered b r front ++ (bytes ++ t)) (gathered-put_out b n s r bytes back h back_below s_below size none_after)
    ∙ sym (append_assoc (gathered b r front) bytes (gathered b r back))
    ∙ ap (λ t. t ++ bytes ++ gathered b r back) (sym (take-gathered b n r order q h below (omega arith)))
    ∙ ap (λ t. take (q * b) (gathered b r order) ++ bytes ++ t) (sym (drop-gathered b n r order (q + 1) h below (omega arith)))
    ∙ ap (λ m. take (q * b) (gathered b r order) ++ bytes ++ drop m (gathered b r order)) next
  where
    s : ℕ
    s = get_or order q d

    new : List ℕ
    new = put r (s * b) bytes

    front : List ℕ
    front = take q order

    back : List ℕ
    back = drop (q + 1) order

    split : order ≡ front ++ s ∷ back
    split = parted order q d lt

    next : (q + 1) * b ≡ q * b + length bytes
    next = omega (arith, add-mul q 1 b, size)

    whole_below : AreBelow n (front ++ s ∷ back)
    whole_below = rw (← split) below

    front_below : AreBelow n front
    front_below = below_left n front (s ∷ back) whole_below

    back_below : AreBelow n back
    back_below = below_rest n s back (below_right n front (s ∷ back) whole_below)

    s_below : s < n
    s_below = below_first n s back (below_right n front (s ∷ back) whole_below)

    own_once : times_in s front + times_in s (s ∷ back) ≤ 1
    own_once = omega (arith, times_in-append s front (s ∷ back), ap (times_in s) split, once s)

    none_before : times_in s front ≡ 0
    none_before = omega (arith, own_once, stands (s ∷ back) 0 0 (omega arith))

    first : times_in s (s ∷ back) ≡ 1 + times_in s back
    first = ap (λ (t : Bool). cond t 1 0 + times_in s back) (eq-eqb s s refl)

    none_after : times_in s back ≡ 0
    none_after = omega (arith, own_once, first)

    own : block_at b new s ≡ bytes
    own =
        ap (λ m. slice new m b) (omega arith)
        ∙ slice-put_in r (s * b) bytes 0 b (omega (arith, mul-le s b n b (omega (arith, s_below)) (omega arith), h)) (omega (arith, size))
        ∙ ap (λ m. take m bytes) (sym size) ∙ take_whole bytes
      where
        take_whole : (l : List ℕ) → take (length l) l ≡ l
        take_whole [] = refl
        take_whole (x ∷ xs) = ap (λ t. x ∷ t) (take_whole xs)
