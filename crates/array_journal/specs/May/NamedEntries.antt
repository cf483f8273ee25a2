-- Entries that an entry names: they stand in the journal with smaller stamps, and each says what is asked of it.
use Rattle.std.specs.Prelude.{◌≡◌, ◌<◌, ℕ, ◌+◌, Bool, true, false, List, [], ◌∷◌, Option, Some, None}
use Rattle.array_journal.specs.declared.at.At.{At}
use Rattle.array_journal.specs.declared.entry.Entry.{Entry}
use Rattle.array_journal.specs.declared.event.Event.{Event}
use Rattle.array_journal.specs.declared.event.Event.TheVariants.{Fetch, Take}
use Rattle.array_journal.specs.declared.setting.Setting.{Setting}
use Rattle.array_journal.specs.declared.task.Task.{Task}
use Rattle.array_journal.specs.Entries.{at_lt, entry_at}
use Rattle.array_journal.specs.declared.act.Act.TheVariants.{Fetches}
use Rattle.array_journal.specs.Acts.{has_act, targets_that, is_act}

-- an entry of this name stands with a smaller stamp, and says this
abbrev pub StandsBefore : List Entry → ℕ → At → Event → Type 0
StandsBefore past stamp name event = (entry_at name past ≡ Some event) × (name.stamp < stamp)

-- there is an event, and it passes
abbrev pub passes : (Event → Bool) → Option Event → Bool
passes test None = false
passes test (Some event) = test event

-- an entry of this name stands with a smaller stamp, and passes
abbrev pub Names : List Entry → ℕ → At → (Event → Bool) → Type 0
Names past stamp name test = (passes test (entry_at name past) ≡ true) × (name.stamp < stamp)

-- what the entry of a name read, took or held
abbrev pub bytes_of : Option Event → List ℕ
bytes_of (Some (Fetch command opened cdb row bytes)) = bytes
bytes_of (Some (Take command opened cdb row bytes)) = bytes
bytes_of _ = []

abbrev pub bytes_named : List Entry → At → List ℕ
bytes_named past name = bytes_of (entry_at name past)

-- the names are of one act each of a command, at these targets in turn
abbrev pub NamesAt : List Entry → ℕ → List ℕ → (Event → Bool) → List At → Type 0
NamesAt past stamp [] test [] = Unit {0}
NamesAt past stamp [] test (name ∷ names) = ⊥
NamesAt past stamp (i ∷ targets) test [] = ⊥
NamesAt past stamp (i ∷ targets) test (name ∷ names) =
    ((name.lock ≡ i + 1) × Names past stamp name test) × NamesAt past stamp targets test names

-- the targets at which a command fetches, rising
abbrev pub fetched_targets : Setting → Task → List ℕ
fetched_targets s task = targets_that s (has_act s Fetches task)

-- The names are the fetches of a command, one for each target at which it fetches, by rising targets.
abbrev pub NamesFetches : Setting → List Entry → ℕ → ℕ → Task → List At → Type 0
NamesFetches s past stamp c task names = NamesAt past stamp (fetched_targets s task) (is_act Fetches c) names

-- the names rise strictly
abbrev pub Rise : List At → Type 0
Rise [] = Unit {0}
Rise (a ∷ []) = Unit {0}
Rise (a ∷ b ∷ names) = (at_lt a b ≡ true) × Rise (b ∷ names)
