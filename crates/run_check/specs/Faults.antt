-- The first entry of a journal that may not follow the ones before it.
use Rattle.std.specs.Prelude.{◌≡◌, ◌<◌, ◌+◌, ℕ, List, length, take, reverse, slice_index_or}
use Rattle.array_journal.specs.declared.entry.Entry.{Entry}
use Rattle.array_journal.specs.declared.setting.Setting.{Setting}
use Rattle.array_journal.specs.May.{May}
use Rattle.array_journal.specs.Run.{Run}

-- the entry that comes after so many may not follow these, which are a run
pub record MayNotFollow (s : Setting) (journal : List Entry) (count : ℕ) : Type 0 where
  pub before : Run s (take count journal)
  pub within : count < length journal
  pub refused : (d : Entry) → May s (reverse (take count journal)) (slice_index_or journal count d) → ⊥

-- the number, from 1, of the first entry that may not follow the ones before it
abbrev pub IsFirstFault : Setting → List Entry → ℕ → Type 0
IsFirstFault s journal number = (count : ℕ) × ((number ≡ count + 1) × MayNotFollow s journal count)
