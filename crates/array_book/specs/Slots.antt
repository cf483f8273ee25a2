-- What the book knows of swaps. A list of entries called past has the newest entry first.
use Rattle.std.specs.Prelude.{◌≡◌, ◌==◌, ◌&&◌, ℕ, List, [], ◌∷◌, ◌++◌, if◌then◌else◌}
use Rattle.std.specs.Ordering.{nat_cmp}
use Rattle.std.specs.Option.{unwrap_or, option_map}
use Rattle.std.specs.BTreeMap.{BTreeMap, get}
use Rattle.std.specs.Global.{Vec}
use Rattle.array_journal.specs.declared.entry.Entry.{Entry}
use Rattle.array_journal.specs.Lives.{is_swap_of}
use Rattle.array_book.specs.declared.slots.Slots.{Slots}

-- the stamps of a slot's swaps, the oldest first
abbrev pub swap_stamps : ℕ → List Entry → List ℕ
swap_stamps i [] = []
swap_stamps i (e ∷ past) = if (e.lock == 0) && is_swap_of i e.event then swap_stamps i past ++ e.stamp ∷ [] else swap_stamps i past

-- the stamps at a slot
abbrev pub stamps_at : BTreeMap ℕ (Vec ℕ) → ℕ → List ℕ
stamps_at swaps i = unwrap_or (option_map (λ stamps. stamps.items) (get nat_cmp swaps i)) []

-- each slot has what the book knows of it
pub record KeepsSlots (past : List Entry) (slots : Slots) : Type 0 where
  pub swaps : (i : ℕ) → stamps_at slots.swaps i ≡ swap_stamps i past
