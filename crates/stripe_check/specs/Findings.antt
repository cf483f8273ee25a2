-- All that a report needs of a journal.
use Rattle.std.specs.Prelude.{ℕ, List}
use Rattle.array_journal.specs.declared.entry.Entry.{Entry}
use Rattle.array_journal.specs.declared.setting.Setting.{Setting}
use Rattle.stripe_check.specs.declared.absent_units.Losses.{Losses}
use Rattle.stripe_check.specs.declared.call_outcomes.Story.{Story}
use Rattle.stripe_check.specs.Folds.{AreMedia}
use Rattle.stripe_check.specs.AbsentUnits.{AreLosses}
use Rattle.stripe_check.specs.CallOutcomes.{Tells}

pub record IsFound (s : Setting) (calls : ℕ) (past : List Entry) (media : List (List ℕ)) (story : Story) (losses : Losses) : Type 0 where
  pub stands : AreMedia s past media
  pub told : Tells calls past story.commands.items story.reads.items story.failures.items story.tallies.items story.listed
  pub lost : AreLosses s past past losses.lost.items losses.made.items
