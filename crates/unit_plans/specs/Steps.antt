-- The steps of the plans of reads and updates: which act comes first, and where each is made.
use Rattle.std.specs.Prelude.{ℕ}
use Rattle.array_journal.specs.declared.act.Act.{Act}
use Rattle.array_journal.specs.declared.act.Act.TheVariants.{Fetches, Diffs, Folds}
use Rattle.array_journal.specs.declared.task.Kind.{Kind}
use Rattle.array_journal.specs.declared.task.Kind.TheVariants.{Update}
use Rattle.array_journal.specs.declared.task.Task.{Task}

abbrev pub first_act : Kind → Act
first_act Update = Diffs
first_act _ = Fetches

abbrev pub target_of : Task → Act → ℕ
target_of task Folds = task.parity
target_of task _ = task.target
