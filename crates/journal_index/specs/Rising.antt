-- Places by keys that rise.
use Rattle.std.specs.Prelude.{◌==◌, ◌<◌, ℕ, List, [], ◌∷◌, Option, Some, None, All, if◌then◌else◌}
use Rattle.std.specs.BTreeMap.{get}
use Rattle.std.specs.List.Sorted.{IsNonDecreasingBy}
use Rattle.std.specs.Option.{option_or}
use Rattle.std.specs.Ordering.{nat_cmp}
use Rattle.journal_index.specs.declared.rising.KeyedPlace.{KeyedPlace}
use Rattle.journal_index.specs.declared.rising.RisingPlaces.{RisingPlaces}

-- the keys in the row rise, below the bound
pub record AreRising (m : RisingPlaces) : Type 0 where
  pub in_order : IsNonDecreasingBy (λ (x : KeyedPlace). x.key) m.rising.items
  pub below : All (λ (x : KeyedPlace). x.key < m.bound) m.rising.items

-- the first place of a key
abbrev pub place_among : List KeyedPlace → ℕ → Option ℕ
place_among [] k = None
place_among (x ∷ xs) k = if x.key == k then Some x.place else place_among xs k

-- the newest place of a key
abbrev pub place_in : RisingPlaces → ℕ → Option ℕ
place_in m k = option_or (get nat_cmp m.others k) (place_among m.rising.items k)

-- the place of what stands there, if its key is this one
abbrev pub place_for : ℕ → Option KeyedPlace → Option ℕ
place_for k None = None
place_for k (Some x) = if x.key == k then Some x.place else None
