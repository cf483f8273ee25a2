-- What is asked of names of a command's acts, as tests.
use Rattle.std.specs.Prelude.{◌==◌, ◌&&◌, ◌||◌, not, ℕ, Bool, true, List, [], ◌∷◌}
use Rattle.std.specs.List.{list_any, list_all}
use Rattle.array_journal.specs.declared.at.At.{At}
use Rattle.array_journal.specs.declared.entry.Entry.{Entry}
use Rattle.array_journal.specs.declared.setting.Setting.{Setting}
use Rattle.array_journal.specs.declared.task.Task.{Task}
use Rattle.array_journal.specs.declared.act.Act.{Act}
use Rattle.array_journal.specs.declared.act.Act.TheVariants.{Folds}
use Rattle.array_journal.specs.Acts.{has_act, is_act}
use Rattle.array_journal.specs.Entries.{entry_at}
use Rattle.array_journal.specs.Lists.{numbers}
use Rattle.array_journal.specs.May.{passes, is_own_act, is_named}
use Rattle.run_check.specs.NameTests.{names}

-- each name is of an act of the command that its task has there
abbrev pub each_own : Setting → List Entry → ℕ → ℕ → Task → List At → Bool
each_own s past stamp c task [] = true
each_own s past stamp c task (name ∷ rest) =
    names past stamp name (is_own_act s c task name.lock) && each_own s past stamp c task rest

-- an act is named at a target where the task has it
abbrev pub is_named_where_due : Setting → List Entry → ℕ → Task → Act → List At → ℕ → Bool
is_named_where_due s past c task act names i = not (has_act s act task i) || is_named past c act i names

-- it is at each target
abbrev pub all_named : Setting → List Entry → ℕ → Task → Act → List At → Bool
all_named s past c task act names = list_all (is_named_where_due s past c task act names) (numbers 0 s.geometry.targets)

-- a fold of the command is among the names
abbrev pub fold_named : List Entry → ℕ → List At → Bool
fold_named past c names = list_any (λ (name : At). not (name.lock == 0) && passes (is_act Folds c) (entry_at name past)) names
