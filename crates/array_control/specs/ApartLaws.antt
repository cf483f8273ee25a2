-- Which entries are of other calls than a given one.
use Rattle.std.specs.Prelude.{◌≡◌, ◌≢◌, ◌++◌, ◌⊎◌, ℕ, true, List, [], ◌∷◌, Some, None}
use Rattle.array_journal.specs.declared.entry.Entry.{Entry}
use Rattle.array_journal.specs.declared.setting.Setting.{Setting}
use Rattle.array_journal.specs.declared.task.Task.{Task}
use Rattle.array_journal.specs.Commands.{ends_command, task_of}
use Rattle.array_journal.specs.Run.{Grows}
use Rattle.stripe_check.specs.Steps.{call_of}
use Rattle.array_control.specs.Progress.{AreOfOthers, OpenNo, is_doing}

-- an entry is of this call, or of none, after the entries before it
abbrev pub IsOfThis : ℕ → Entry → List Entry → Type 0
IsOfThis m e past = (call_of e.event past ≡ Some m) ⊎ (call_of e.event past ≡ None)

abbrev pub AreOfThis : ℕ → List Entry → List Entry → Type 0
AreOfThis m [] past = Unit {0}
AreOfThis m (e ∷ entries) past = IsOfThis m e (entries ++ past) × AreOfThis m entries past

-- entries of one call are none of another
abbrev pub CallsAreApart : Type 0
CallsAreApart = (m n : ℕ) (entries past : List Entry) → m ≢ n → AreOfThis m entries past → AreOfOthers n entries past

-- what a command does, and its end, is of the call that it was opened for
abbrev pub CommandsHaveTheirCall : Type 0
CommandsHaveTheirCall = (c : ℕ) (task : Task) (e : Entry) (past : List Entry) → task_of c past ≡ Some task
    → (is_doing c e.event ≡ true) ⊎ (ends_command c e.event ≡ true) → call_of e.event past ≡ Some task.call

-- in a run no command is opened a second time
abbrev pub NoneOpensAgain : Type 0
NoneOpensAgain = (s : Setting) (c : ℕ) (task : Task) (others past : List Entry) → Grows s (others ++ past) → task_of c past ≡ Some task → OpenNo c others
