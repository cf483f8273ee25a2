-- What holds of each entry of a run over the entries before it, besides that nothing is lost: exclusive commands are
-- undisturbed, nothing follows the end of a command, and absent units are just those that are missing or gone. The
-- newest entry comes first, but in GuardedLaw.
use Rattle.std.specs.Prelude.{◌≡◌, ◌≢◌, ◌||◌, ◌+◌, ℕ, true, false, List, [], ◌∷◌, reverse, Some}
use Rattle.array_journal.specs.declared.at.At.{At}
use Rattle.array_journal.specs.declared.entry.Entry.{Entry}
use Rattle.array_journal.specs.declared.event.Event.TheVariants.{Open}
use Rattle.array_journal.specs.declared.setting.Setting.{Setting}
use Rattle.array_journal.specs.declared.task.Task.{Task}
use Rattle.array_journal.specs.Entries.{entry_at}
use Rattle.array_journal.specs.Commands.{ends_command, is_open, task_of}
use Rattle.array_journal.specs.declared.act.Act.{Act}
use Rattle.array_journal.specs.Acts.{is_act}
use Rattle.array_journal.specs.Lives.{is_gone, is_absent, is_missing}
use Rattle.array_journal.specs.Run.{Run}
use Rattle.array_journal.specs.Laws.{RunsAlone, entries_before}

-- it holds of each entry and of those before it
abbrev pub EachAfter : (Entry → List Entry → Type 0) → List Entry → Type 0
EachAfter P [] = Unit {0}
EachAfter P (e ∷ past) = P e past × EachAfter P past

-- the entry is no act of another command on the stripe of an open one that runs alone
abbrev pub IsUndisturbing : Entry → List Entry → Type 0
IsUndisturbing e past =
    (c d : ℕ) (task other : Task) (act : Act) → RunsAlone c task past → is_act act d e.event ≡ true → task_of d past ≡ Some other → d ≢ c →
    other.stripe ≢ task.stripe

-- an act, and an end, are those of an open command: so none follows the end of its command
abbrev pub IsOfOpenCommand : Entry → List Entry → Type 0
IsOfOpenCommand e past =
    ((c : ℕ) (act : Act) → is_act act c e.event ≡ true → is_open c past ≡ true) × ((c : ℕ) → ends_command c e.event ≡ true → is_open c past ≡ true)

-- after the entry a unit is absent exactly where it is missing or its target is gone
abbrev pub LeavesAbsent : Entry → List Entry → Type 0
LeavesAbsent e past = (i stripe : ℕ) → is_absent i stripe (e ∷ past) ≡ (is_missing i stripe (e ∷ past) || is_gone i (e ∷ past))

-- where the entry is an act at a target that isn't gone, and the unit wasn't missing when its command was opened, the
-- unit isn't absent. A target that is gone lets no act follow.
abbrev pub IsOnPresent : Entry → List Entry → Type 0
IsOnPresent e past =
    (i c : ℕ) (act : Act) (task : Task) (opened : At) → e.lock ≡ i + 1 → is_act act c e.event ≡ true → opened.lock ≡ 0 →
    entry_at opened past ≡ Some (Open c task) → is_missing i task.stripe (entries_before opened past) ≡ false → is_absent i task.stripe past ≡ false

-- so of each entry of a journal, the oldest first
pub record IsGuarded (journal : List Entry) : Type 0 where
  pub undisturbed : EachAfter IsUndisturbing (reverse journal)
  pub ended : EachAfter IsOfOpenCommand (reverse journal)
  pub absent : EachAfter LeavesAbsent (reverse journal)
  pub present : EachAfter IsOnPresent (reverse journal)

abbrev pub GuardedLaw : Type 0
GuardedLaw = (s : Setting) (journal : List Entry) → Run s journal → IsGuarded journal
