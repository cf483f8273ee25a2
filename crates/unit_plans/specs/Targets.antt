-- A target of an array, and a journal that has its entries. A journal has the newest entry first here.
use Rattle.std.specs.Prelude.{◌≡◌, ◌<◌, ◌≤◌, ◌+◌, ℕ, List, ◌∷◌, reverse, Some}
use Rattle.std.specs.List.{AllByRecursion}
use Rattle.stripe_layout.specs.Layout.{rows_of}
use Rattle.array_journal.specs.declared.at.At.{At}
use Rattle.array_journal.specs.declared.entry.Entry.{Entry}
use Rattle.array_journal.specs.declared.setting.Setting.{Setting}
use Rattle.array_journal.specs.Laws.{lane}
use Rattle.array_journal.specs.May.{May}
use Rattle.array_journal.specs.Merge.{Rises}
use Rattle.xor_target.specs.State.{TargetState, IsRecorded}

-- the target is one of the array: its number is below that of its targets, and it has their shape
pub record IsTargetOf (s : Setting) (t : TargetState) : Type 0 where
  pub number : t.number < s.geometry.targets
  pub targets : t.targets ≡ s.geometry.targets
  pub block : t.block ≡ s.geometry.block
  pub rows : t.rows ≡ rows_of s.geometry
  pub buffer : t.buffer ≡ s.buffer

-- Its medium tells its bytes; these, and what it holds, are what its entries say; and the names of its entries rise, from
-- the oldest on.
pub record IsKept (t : TargetState) : Type 0 where
  pub told : List ℕ
  pub tells : t.contents ≡ Some told
  pub recorded : IsRecorded t told
  pub rise : Rises (reverse t.past)

-- The journal has the entries of a target of the array at the target's lock, and no others there.
pub record StandsIn (s : Setting) (t : TargetState) (journal : List Entry) : Type 0 where
  pub of_array : IsTargetOf s t
  pub kept : IsKept t
  pub entries : lane (t.number + 1) journal ≡ t.past

-- who has seen stamps up to this one has seen these entries
abbrev pub AreSeen : ℕ → List At → Type 0
AreSeen seen names = AllByRecursion (λ (name : At). name.stamp ≤ seen) names

-- The target has one entry more than before, at its lock, and it may follow the journal.
pub record GrowsBy (s : Setting) (journal : List Entry) (t after : TargetState) : Type 0 where
  pub entry : Entry
  pub grown : after.past ≡ entry ∷ t.past
  pub at_lock : entry.lock ≡ t.number + 1
  pub may : May s journal entry
