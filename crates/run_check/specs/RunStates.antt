-- What the program keeps of a run so far. A list called past has the newest entry first.
use Rattle.std.specs.Prelude.{List}
use Rattle.array_journal.specs.declared.entry.Entry.{Entry}
use Rattle.array_journal.specs.declared.setting.Setting.{Setting}
use Rattle.journal_index.specs.Indexes.{IsIndexOf}
use Rattle.run_check.specs.TargetStates.{AreStates}
use Rattle.run_check.specs.declared.state.RunState.{RunState}

-- what is kept is what these entries leave at the targets, and their index
pub record IsRunState (s : Setting) (past : List Entry) (state : RunState) : Type 0 where
  pub states : AreStates s past state.states
  pub index : IsIndexOf past state.index
