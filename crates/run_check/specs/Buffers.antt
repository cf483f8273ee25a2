-- What the program keeps of buffers.
use Rattle.std.specs.Prelude.{◌≡◌, ◌<◌, ℕ, List, [], length, get_or}
use Rattle.array_journal.specs.declared.entry.Entry.{Entry}
use Rattle.array_journal.specs.declared.setting.Setting.{Setting}
use Rattle.xor_buffers.specs.declared.held.HeldBlocks.{HeldBlocks}
use Rattle.array_journal.specs.Media.{held}

-- the buffers of all targets, in their order
pub record AreBuffers (s : Setting) (past : List Entry) (kept : List (List HeldBlocks)) : Type 0 where
  pub count : length kept ≡ s.geometry.targets
  pub each : (i : ℕ) → i < s.geometry.targets → get_or kept i [] ≡ held s i past
