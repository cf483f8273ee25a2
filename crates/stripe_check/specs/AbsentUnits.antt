-- What is kept of lost disks while a journal is read. Places in it are counted from 1, and 0 is nowhere.
use Rattle.std.specs.Prelude.{◌≡◌, ◌<◌, ◌≤◌, nat_lt, ℕ, Bool, List, [], length, get_or}
use Rattle.stripe_layout.specs.Layout.{stripes_of}
use Rattle.array_journal.specs.declared.entry.Entry.{Entry}
use Rattle.array_journal.specs.declared.setting.Setting.{Setting}
use Rattle.array_journal.specs.Lives.{absent_in}

-- the place at which a unit was made anew last
abbrev pub made_at : List (List ℕ) → ℕ → ℕ → ℕ
made_at made i stripe = get_or (get_or made i []) stripe 0

-- a unit's disk was lost after the unit was made
abbrev pub is_lost : List ℕ → List (List ℕ) → ℕ → ℕ → Bool
is_lost lost made i stripe = nat_lt (made_at made i stripe) (get_or lost i 0)

-- where each target was lost, and each of its units made anew, over the commands of the whole journal
pub record AreLosses (s : Setting) (whole past : List Entry) (lost : List ℕ) (made : List (List ℕ)) : Type 0 where
  pub lost_count : length lost ≡ s.geometry.targets
  pub made_count : length made ≡ s.geometry.targets
  pub units : (i : ℕ) → i < s.geometry.targets → length (get_or made i []) ≡ stripes_of s.geometry
  pub lost_before : (i : ℕ) → get_or lost i 0 ≤ length past
  pub made_before : (i stripe : ℕ) → made_at made i stripe ≤ length past
  pub absent : (i stripe : ℕ) → i < s.geometry.targets → stripe < stripes_of s.geometry → is_lost lost made i stripe ≡ absent_in whole i stripe past
