-- The array whose book is called.
use Rattle.std.specs.Prelude.{◌≡◌}
use Rattle.stripe_layout.specs.Layout.{capacity_of, stripes_of}
use Rattle.array_journal.specs.declared.setting.Setting.{Setting}
use Rattle.array_journal.specs.Run.{IsSetting}

-- three targets with two stripes of two blocks a unit, and room for two blocks in each buffer
pub record IsSmall (s : Setting) : Type 0 where
  pub setting : IsSetting s
  pub targets : s.geometry.targets ≡ 3
  pub block : s.geometry.block ≡ 8
  pub stripes : stripes_of s.geometry ≡ 2
  pub capacity : capacity_of s.geometry ≡ 8
  pub buffer : s.buffer ≡ 2
