-- What a script sets an array to.
use Rattle.std.specs.Prelude.{ℕ, ◌==◌, min, if◌then◌else◌, slice_index}
use Rattle.array_journal.specs.declared.setting.Setting.{Setting}
use Rattle.host_scripts.specs.declared.script.Script.{Script}

-- the setting of the array that a script speaks of
abbrev pub setting_of : Script → Setting
setting_of s = record { geometry = s.geometry; buffer = s.buffer; mode = s.mode }

-- The most blocks of a command: as many as a buffer holds, and no more than the maximum XOR write size of the targets'
-- first page, where zero means no maximum. That a piece ends with its unit is the layout's matter.
abbrev pub most_blocks : Script → ℕ
most_blocks script =
    if slice_index script.maxima 0 == 0 then script.buffer else min script.buffer (slice_index script.maxima 0)
