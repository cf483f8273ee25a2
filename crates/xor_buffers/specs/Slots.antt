-- Slots of one block each in a region of bytes, in the order in which they are used.
use Rattle.std.specs.Prelude.{◌≡◌, ◌==◌, ◌≤◌, ◌+◌, ◌-◌, ℕ, zero, suc, List, [], ◌∷◌, ◌++◌, take, drop, if◌then◌else◌}
use Rattle.blocks_core.specs.Lists.{block_at, slice}

-- slots as they are used: the bytes of a block, how many slots there are, and their bytes in that order
pub record Slotted : Type 0 where
  pub block : ℕ
  pub count : ℕ
  pub bytes : List ℕ

-- the blocks of a region in an order
abbrev pub gathered : ℕ → List ℕ → List ℕ → List ℕ
gathered block region [] = []
gathered block region (slot ∷ order) = block_at block region slot ++ gathered block region order

-- how often a slot stands in an order
abbrev pub times_in : ℕ → List ℕ → ℕ
times_in slot [] = 0
times_in slot (x ∷ xs) = (if x == slot then 1 else 0) + times_in slot xs

-- an order of so many slots: none stands in it twice, and no other
pub record IsOrder (count : ℕ) (order : List ℕ) : Type 0 where
  pub once : (slot : ℕ) → times_in slot order ≤ 1
  pub inside : (slot : ℕ) → count ≤ slot → times_in slot order ≡ 0

-- Bytes of which some are let go: they come behind all that are in use, which end at a place, and those in front of them
-- and all behind stay in their order.
abbrev pub released : ℕ → ℕ → ℕ → List ℕ → List ℕ
released at len used bytes = take at bytes ++ slice bytes (at + len) (used - (at + len)) ++ slice bytes at len ++ drop used bytes

-- so many numbers, from one on
abbrev pub numbers_from : ℕ → ℕ → List ℕ
numbers_from first zero = []
numbers_from first (suc n) = numbers_from first n ++ (first + n) ∷ []

-- an order of which so many, from a place on, come behind the others that are in use, which end at a place
abbrev pub turned : ℕ → ℕ → ℕ → List ℕ → List ℕ
turned at count used order =
    take at order ++ (drop count (slice order at (used - at)) ++ take count (slice order at (used - at)) ++ drop used order)
