-- What the program keeps of targets.
use Rattle.std.specs.Prelude.{List}
use Rattle.array_journal.specs.declared.entry.Entry.{Entry}
use Rattle.array_journal.specs.declared.setting.Setting.{Setting}
use Rattle.stripe_check.specs.Folds.{AreMedia}
use Rattle.run_check.specs.Buffers.{AreBuffers}
use Rattle.run_check.specs.SentDeltas.{KeepsDeltas}
use Rattle.run_check.specs.declared.targets.TargetStates.{TargetStates}

-- these are the media, the buffers and the deltas that the entries leave
pub record AreStates (s : Setting) (past : List Entry) (states : TargetStates) : Type 0 where
  pub of_media : AreMedia s past states.media.items
  pub of_buffers : AreBuffers s past states.buffers.items
  pub of_deltas : KeepsDeltas s past states.deltas
