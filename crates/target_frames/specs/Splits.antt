-- Bytes cut into items.
use Rattle.std.specs.Prelude.{◌≡◌, ◌≤◌, ◌+◌, ℕ, List, length, drop, Option, Some, None}
use Rattle.target_frames.specs.declared.splitting.Split.{Split}
use Rattle.target_frames.specs.declared.fault.FrameFault.{FrameFault}
use Rattle.target_frames.specs.declared.fault.FrameFault.TheVariants.{Field, Memory}
use Rattle.target_frames.specs.Frames.{End, Unfinished, Refused, ReadsFrom, spellings, all_told}
use Rattle.target_frames.specs.State.{State, bytes_of}

-- what stands behind the items: the bytes, or the place among all bytes of a field that isn't right
abbrev pub end_at : ℕ → List ℕ → Option ℕ → End
end_at used bytes None = Unfinished (drop used bytes)
end_at used bytes (Some place) = Refused (used + place)

-- the bytes were cut so, where so many targets were known
pub record Splits (known : Option ℕ) (bytes : List ℕ) (s : Split) : Type 0 where
  pub reads : ReadsFrom known 0 bytes s.items (end_at s.used bytes s.wrong)
  pub targets : s.targets ≡ all_told known s.items
  pub used : s.used ≡ length (spellings s.items)
  pub within : s.used ≤ length bytes

-- what a reader knows behind the items of a split, by the field of it that isn't right
abbrev pub passed_by : Option ℕ → State → Split → State
passed_by None old s = record {
  targets = s.targets;
  at = old.at + s.used;
  end = Unfinished (drop s.used (bytes_of old.end));
  waiting = old.waiting;
}
passed_by (Some place) old s = record {
  targets = s.targets;
  at = old.at + s.used;
  end = Refused (old.at + s.used + place);
  waiting = s.items;
}

abbrev pub passed : State → Split → State
passed old s = passed_by s.wrong old s

-- the fault is the split's field, by its place in the stream
abbrev pub IsFieldOf : State → Split → FrameFault → Type 0
IsFieldOf old s (Field byte) = (place : ℕ) × (s.wrong ≡ Some place) × (byte ≡ old.at + s.used + place)
IsFieldOf old s Memory = ⊥
