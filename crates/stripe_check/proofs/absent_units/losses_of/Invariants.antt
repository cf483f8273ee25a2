use Rattle.std.proofs.Common.{◌≡◌, take, reverse}
use Rattle.array_journal.specs.declared.setting.Setting.{Setting}
use Rattle.stripe_check.specs.Folds.{AreCommands}
use Rattle.stripe_check.specs.AbsentUnits.{AreLosses}
use Rattle.stripe_check.proofs.absent_units.losses_of.Given as goal

abbrev pub invariant-loop-place : goal.invariant-loop-place
invariant-loop-place l =
    (s : Setting) → s.geometry ≡ l.geometry → AreCommands (reverse l.journal) l.commands
    → AreLosses s (reverse l.journal) (reverse (take l.place l.journal)) l.losses.lost.items l.losses.made.items
